-- Parts of a header.
use Rattle.std.proofs.Common.{ℕ, List, refl}
use Rattle.std.specs.Prelude.{codes}
use Rattle.serde_json.specs.Data.{Data}
use Rattle.swap_digraph.specs.declared.deal.Deal.{Deal}
use Rattle.swap_digraph.specs.declared.deal.Mode.{Mode}
use Rattle.swap_digraph.specs.declared.deal.Mode.TheVariants.{Timelocks, Hashkeys}
use Rattle.offer_text.specs.Words.{IsBelow}
use Rattle.offer_text.specs.HeaderLine.{fields_by_mode}

-- delta stands before the keys and the leaders
pub delta_is_first : (m : Mode) (names : List (List ℕ)) (parties : Data) (d : Deal) → IsBelow (codes "delta") (fields_by_mode m names parties d)
delta_is_first Timelocks names parties d = refl
delta_is_first Hashkeys names parties d = refl

-- the finish stands before the keys and the leaders
pub finish_is_first : (m : Mode) (names : List (List ℕ)) (parties : Data) (d : Deal) → IsBelow (codes "finish") (fields_by_mode m names parties d)
finish_is_first Timelocks names parties d = refl
finish_is_first Hashkeys names parties d = refl
