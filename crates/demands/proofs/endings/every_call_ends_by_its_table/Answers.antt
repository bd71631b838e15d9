use Rattle.demands.proofs.Exactly.{exactly, system_exactly, number_exactly, raw_exactly, fill_exactly, tick_exactly}
use Rattle.demands.proofs.endings.every_call_ends_by_its_table.Goals as goal

pub returns : goal.returns
returns c = record { request = exactly; system_write = system_exactly; number_read = number_exactly; raw_read = raw_exactly; fill = fill_exactly; tick = tick_exactly }
