-- What a version allows.
use Rattle.std.proofs.Common.{◌≡◌, ℕ, ◌≤◌, Ok, sym, arith}
use Rattle.serde_json.specs.Data.{Data}
use Rattle.swap_digraph.specs.Deal.{most_parties}
use Rattle.swap_digraph.specs.declared.deal.Mode.{Mode}
use Rattle.swap_digraph.specs.declared.deal.Mode.TheVariants.{Timelocks, Hashkeys}
use Rattle.swap_digraph.specs.declared.deal.Version.{Version}
use Rattle.swap_digraph.specs.declared.deal.Version.TheVariants.{One, Two}
use Rattle.offer_moves.proofs.Chains.{went}
use Rattle.offer_header.specs.Raw.{checked_mode, stated_mode, mode_member, IsVersionMode}

-- no version has more parties
pub few_parties : (version : Version) → most_parties version ≤ 32
few_parties One = omega arith
few_parties Two = omega arith

keyed : (line : ℕ) (stated mode : Mode) → checked_mode line Two stated ≡ Ok mode → mode ≡ Hashkeys
keyed line Timelocks mode e = absurd (cc e)
keyed line Hashkeys mode e = let same : Hashkeys ≡ mode = cc e in sym same

pub is_mode_of : (line : ℕ) (version : Version) (d : Data) (mode : Mode) → mode_member line version d ≡ Ok mode → IsVersionMode version mode
unfolding mode_member
is_mode_of line One d mode e = tt
is_mode_of line Two d mode e =
    let p = went (stated_mode line d) (checked_mode line Two) mode e in
    keyed line p.0 mode p.2
