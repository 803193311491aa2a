-- The plain job of a group holds no floating number, so that its text is pinned byte for byte.
use Rattle.std.proofs.Common.{◌≡◌, false, refl, codes}
use Rattle.serde_json.specs.Written.{has_float}
use Rattle.offer_text.proofs.Floats.{list_without}
use Rattle.swap_clear.specs.declared.answer.Group.{Group}
use Rattle.swap_clear.specs.declared.limits.Wishes.{Wishes}
use Rattle.swap_clear.specs.ClearedText.{proposal_data, group_data, named_data, proposal}

pub group_has_none : (w : Wishes) (group : Group) → has_float (group_data w group) ≡ false
group_has_none w group =
    let arcs = list_without (λ a. proposal_data w.names (proposal w.arcs a)) (λ a. refl) group.arcs in
    let leaders = list_without (named_data (codes "party") w.names) (λ p. refl) group.leaders in
    let parties = list_without (named_data (codes "name") w.names) (λ p. refl) group.parties in
    rw (arcs, leaders, parties) refl
