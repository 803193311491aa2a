-- With hashkeys no arc has a timelock.
use Rattle.std.proofs.Common.{◌≡◌, ℕ, ◌<◌, length, get_or, List, Bool, Ok, ap, ◌∙◌, codes}
use Rattle.serde_json.specs.Data.{Data}
use Rattle.swap_base.specs.Fault.{◌>>=◌}
use Rattle.swap_digraph.specs.declared.deal.Mode.{Mode}
use Rattle.swap_digraph.specs.declared.deal.Mode.TheVariants.{Timelocks, Hashkeys}
use Rattle.offer_moves.specs.Fields.{field_number, field_text, required_object, read_array_field, field_list, listed, each, only}
use Rattle.swap_job.specs.declared.job.Purpose.{Purpose}
use Rattle.offer_header.specs.Raw.{states_timelocks, timelock_member, arc_fields, object_arc}
use Rattle.offer_header.specs.declared.raw.Reading.{Reading}
use Rattle.offer_header.specs.declared.raw.RawArc.{RawArc}
use Rattle.offer_moves.proofs.Chains.{went, each_all}

none_with_hashkeys : (line : ℕ) (purpose : Purpose) (mode : Mode) (d : Data) (n : ℕ) → mode ≡ Hashkeys
    → timelock_member line (states_timelocks purpose mode) d ≡ Ok n → n ≡ 0
none_with_hashkeys line purpose Timelocks d n e h = absurd (cc e)
none_with_hashkeys line purpose Hashkeys d n e h = cc h

timelock_along : (a b : RawArc) → a ≡ b → a.timelock ≡ b.timelock
timelock_along a b e = ap (λ (x : RawArc). x.timelock) e

arc_untimed : (reading : Reading) (line : ℕ) (d : Data) (a : RawArc) → reading.mode ≡ Hashkeys → object_arc reading line d ≡ Ok a → a.timelock ≡ 0
unfolding object_arc
arc_untimed reading line d a is h =
    let stated : Bool = states_timelocks reading.purpose reading.mode in
    let one = went (required_object line (codes "arcs") d) (λ o. field_text line (codes "from") d >>= λ from. field_text line (codes "to") d >>= λ to.
    field_number line (codes "amount") d >>= λ amount. timelock_member line stated d >>= λ timelock. only line (arc_fields stated) d >>= λ u.
    Ok (record { from = from; to = to; amount = amount; timelock = timelock })) a h in
    let two = went (field_text line (codes "from") d) (λ from. field_text line (codes "to") d >>= λ to. field_number line (codes "amount") d >>= λ amount.
    timelock_member line stated d >>= λ timelock. only line (arc_fields stated) d >>= λ u.
    Ok (record { from = from; to = to; amount = amount; timelock = timelock })) a one.2 in
    let three = went (field_text line (codes "to") d) (λ to. field_number line (codes "amount") d >>= λ amount. timelock_member line stated d >>= λ timelock.
    only line (arc_fields stated) d >>= λ u. Ok (record { from = two.0; to = to; amount = amount; timelock = timelock })) a two.2 in
    let four = went (field_number line (codes "amount") d) (λ amount. timelock_member line stated d >>= λ timelock.
    only line (arc_fields stated) d >>= λ u. Ok (record { from = two.0; to = three.0; amount = amount; timelock = timelock })) a three.2 in
    let five = went (timelock_member line stated d) (λ timelock. only line (arc_fields stated) d >>= λ u.
    Ok (record { from = two.0; to = three.0; amount = four.0; timelock = timelock })) a four.2 in
    let six = went (only line (arc_fields stated) d) (λ u. Ok (record { from = two.0; to = three.0; amount = four.0; timelock = five.0 })) a five.2 in
    let same : a ≡ record { from = two.0; to = three.0; amount = four.0; timelock = five.0 } = cc (six.2) in
    timelock_along a (record { from = two.0; to = three.0; amount = four.0; timelock = five.0 }) same
    ∙ none_with_hashkeys line reading.purpose reading.mode d five.0 is five.1

pub arcs_untimed : (reading : Reading) (line : ℕ) (d : Data) (arcs : List RawArc) → reading.mode ≡ Hashkeys
    → field_list line (codes "arcs") (object_arc reading line) d ≡ Ok arcs → (a : ℕ) (e : RawArc) → a < length arcs → (get_or arcs a e).timelock ≡ 0
unfolding field_list each
arcs_untimed reading line d arcs is h =
    let one = went (read_array_field line (codes "arcs") d) (λ items. each (object_arc reading line) items) arcs h in
    each_all (λ a. a.timelock ≡ 0) (object_arc reading line) (λ d a e. arc_untimed reading line d a is e) (listed one.0) arcs one.2
