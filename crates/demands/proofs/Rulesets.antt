-- The laws that prove one theorem each, by the function that names them.
-- Assumes nothing.
use Rattle.demands.proofs.Apart.{alike-at_1, told-at_2, alike-at_0, told-at_1, differ}
use Rattle.demands.proofs.Clocks.{clock_valid, tick-valid}
use Rattle.demands.proofs.Kept.{kept, named-holds, read_only, out_of_reach}
use Rattle.demands.proofs.Listed.{listed, system_listed, number-listed, raw-listed, fill-listed, tick-listed}
use Rattle.demands.proofs.Readings.{one-reading, kind_is_kept}
use Rattle.demands.proofs.Refused.{refused-keeps, system_keeps, fill-keeps, tick-keeps, raw-keeps}
use Rattle.demands.proofs.Unique.{request_unique, system_unique, fill_unique, tick_unique, moment_unique, number_unique, raw_unique}
use Rattle.demands.proofs.Unique.{request_result_unique, system_result_unique, fill_result_unique, moment_result_unique, number_result_unique, raw_result_unique}

pub ruleset next_level = (alike-at_1, told-at_2, alike-at_0, told-at_1, differ)

pub ruleset dates = (clock_valid, tick-valid)

pub ruleset keeping = (kept, named-holds, read_only, out_of_reach)

pub ruleset listings = (listed, system_listed, number-listed, raw-listed, fill-listed, tick-listed)

pub ruleset readings = (one-reading, kind_is_kept)

pub ruleset refusals = (refused-keeps, system_keeps, fill-keeps, tick-keeps, raw-keeps)

pub ruleset uniqueness = (request_unique, system_unique, fill_unique, tick_unique, moment_unique, number_unique, raw_unique)

pub ruleset result_uniqueness = (request_result_unique, system_result_unique, fill_result_unique, moment_result_unique, number_result_unique, raw_result_unique)
