-- What the fields of a line of wishes say, in the order in which they are examined, or the first
-- reason why one is refused.
use Rattle.std.specs.Prelude.{◌==◌, ℕ, List, [], ◌∷◌, codes, if◌then◌else◌, Result, Ok, Err}
use Rattle.serde_json.specs.Data.{Data}
use Rattle.swap_base.specs.Fault.{◌>>=◌}
use Rattle.swap_digraph.specs.declared.deal.Mode.TheVariants.{Hashkeys}
use Rattle.swap_job.specs.declared.job.Purpose.TheVariants.{Make}
use Rattle.command_input.specs.declared.reason.Reason.{Reason}
use Rattle.command_input.specs.declared.reason.Reason.TheVariants.{WrongKind}
use Rattle.offer_moves.specs.Fields.{field_number, text_member, field_list, only}
use Rattle.offer_header.specs.Raw.{object_arc}
use Rattle.offer_header.specs.declared.raw.RawArc.{RawArc}
use Rattle.swap_clear.specs.declared.fields.RawWishes.{RawWishes}

-- the number 1 says that the line is one of wishes
unfoldable pub clear_kind : ℕ → Data → Result (Unit {0}) Reason
clear_kind line d = do
  n ← field_number line (codes "clear") d
  if n == 1 then Ok tt else Err (WrongKind line (codes "clear"))

abbrev pub fields : List (List ℕ)
fields = codes "arcs" ∷ codes "clear" ∷ codes "delta" ∷ codes "parties" ∷ codes "start" ∷ []

-- an arc has the fields that it has in a plain job with hashkeys: `from`, `to` and `amount`
abbrev pub read_clear_arc : ℕ → Data → Result RawArc Reason
read_clear_arc line d = object_arc (record { purpose = Make; mode = Hashkeys }) line d

-- the fields of a line
unfoldable pub raw_wishes : ℕ → Data → Result RawWishes Reason
raw_wishes line d = do
  k ← clear_kind line d
  start ← field_number line (codes "start") d
  delta ← field_number line (codes "delta") d
  parties ← field_list line (codes "parties") (text_member line (codes "parties")) d
  arcs ← field_list line (codes "arcs") (read_clear_arc line) d
  u ← only line fields d
  Ok (record { start = start; delta = delta; parties = parties; arcs = arcs })
