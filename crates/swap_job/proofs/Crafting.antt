-- What parties craft, one after another from the last.
use Rattle.std.proofs.Common.{◌≡◌, ℕ, suc, ◌+◌, ◌≤◌, List, length, Option}
use Rattle.std.proofs.Common.{Some, None, refl, ap, arith}
use Rattle.swap_digraph.specs.declared.deal.Deal.{Deal}
use Rattle.swap_digraph.specs.declared.deal.Mode.{Mode}
use Rattle.swap_digraph.specs.declared.deal.Mode.TheVariants.{Timelocks, Hashkeys}
use Rattle.swap_digraph.specs.Deal.{path_limit}
use Rattle.hashkey_path.specs.declared.hashkey.Hashkey.{Hashkey}
use Rattle.party_wallet.specs.Keys.{own_key, onto_key}
use Rattle.swap_job.specs.Crafted.{Seeds, make_seed, prepend_party}
use Rattle.swap_job.specs.MoveKeys.{HasPathRoom}

own_room : (m : Mode) (d : Deal) (v : ℕ) (seed : List ℕ) (i n : ℕ) → suc n ≤ path_limit d → HasPathRoom d n (Some (own_key m d v seed i))
own_room Timelocks d v seed i n l = (omega (arith, l), refl)
own_room Hashkeys d v seed i n l = (omega (arith, l), refl)

onto_room : (m : Mode) (d : Deal) (v : ℕ) (seed : List ℕ) (key : Hashkey) (n : ℕ) → suc n + length key.path ≤ path_limit d
    → length key.sigs ≡ length key.path → HasPathRoom d n (Some (onto_key m d v seed key))
onto_room Timelocks d v seed key n l e = (omega (arith, l), refl)
onto_room Hashkeys d v seed key n l e = (omega (arith, l), ap suc e)

-- one party fewer is left
pub put_room : (d : Deal) (seeds : Seeds) (i : ℕ) (made : Option Hashkey) (v n : ℕ) → HasPathRoom d (suc n) made
    → HasPathRoom d n (Some (prepend_party d seeds i made v))
put_room d seeds i None v n r = own_room d.mode d v (make_seed seeds v) i n r
put_room d seeds i (Some key) v n r = onto_room d.mode d v (make_seed seeds v) key n r.0 r.1
