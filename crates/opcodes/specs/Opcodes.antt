-- The opcodes that are served, as the rules name them.
-- Assumes nothing.
use Rattle.faults.specs.declared.Fault.{Fault}
use Rattle.faults.specs.declared.Refusal.TheVariants.{Unserved}
use Rattle.rules.specs.Opcodes as rules
use Rattle.opcodes.specs.declared.opcode.Opcode.{Opcode}
use Rattle.opcodes.specs.declared.opcode.Opcode.TheVariants.{ReadClock, SetClock, ReadTable, WriteTable, WriteBlock, ReadBlock, ReadNamed, WriteNamed}

abbrev pub served : Opcode → rules.Opcode
served ReadClock = rules.read7
served SetClock = rules.set8
served ReadTable = rules.read10
served WriteTable = rules.write11
served WriteBlock = rules.write166
served ReadBlock = rules.read167
served ReadNamed = rules.read180
served WriteNamed = rules.write181

-- what another opcode comes to
abbrev pub not_served : Fault
not_served = record { refusal = Unserved; place = 0 }
