use Rattle.std.proofs.Common.{◌≡◌, drop}
use Rattle.std.specs.List.{list_all}
use Rattle.offer_header.specs.Names.{is_name_byte}
use Rattle.offer_header.proofs.names.are_name_bytes.Given as goal

abbrev pub invariant-loop-b : goal.invariant-loop-b
invariant-loop-b l = list_all is_name_byte (drop l.b-index l.name) ≡ list_all is_name_byte l.name
