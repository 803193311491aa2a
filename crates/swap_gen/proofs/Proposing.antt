-- The deal that a number gives lacks only what its parties' seeds give.
use Rattle.std.proofs.Common.{◌≡◌, ℕ, ◌+◌, ◌-◌, ◌*◌, ◌%◌, ◌^◌, ◌<◌, ◌≤◌, length, map, get_or, slice_index, sym, ◌∙◌, arith}
use Rattle.std.specs.List.{range_with_len}
use Rattle.std.proofs.Math.Nat.{mod-lt, min-le_left}
use Rattle.std.proofs.lemmas.List.FromFn.{length-range_with_len, get_or-range_with_len, length-map-range_with_len, get_or-map-range_with_len}
use Rattle.swap_digraph.specs.Graph.{ends}
use Rattle.swap_digraph.specs.Value.{Graph}
use Rattle.swap_digraph.specs.declared.deal.Version.TheVariants.{One}
use Rattle.swap_digraph.proofs.Faults.{has_ends}
use Rattle.leader_check.specs.Levels.{greatest_level}
use Rattle.leader_check.proofs.Heights.{greatest_level_is_height}
use Rattle.swap_offer.specs.Proposed.{IsProposed}
use Rattle.swap_gen.specs.Word.{word}
use Rattle.swap_gen.specs.Drawn.{leader_count, drawn_arcs, drawn_graph, drawn_amount, plain_deal}
use Rattle.swap_gen.proofs.Rings.{leaders_are_low, arcs_are_sound, arcs_have_ring}
use Rattle.swap_gen.proofs.Rising.{ring_is_strong, rising_is_feedback, sound_rises}

leader_is : (count i : ℕ) → i < count → slice_index (range_with_len 0 count) i ≡ i
leader_is count i lt = get_or-range_with_len 0 count i 0 lt ∙ (omega arith)

amount_within : (seed n m a : ℕ) → a < m → (1 ≤ slice_index (map (drawn_amount seed n) (range_with_len 0 m)) a)
    × (slice_index (map (drawn_amount seed n) (range_with_len 0 m)) a ≤ 10 ^ 12)
amount_within seed n m a lt =
    let e : slice_index (map (drawn_amount seed n) (range_with_len 0 m)) a ≡ drawn_amount seed n a =
    get_or-map-range_with_len (drawn_amount seed n) 0 m a a 0 lt (omega arith) in
    let some : 0 < 1000 = omega arith in
    let w : word seed (1 + 2 * n + a) % 1000 < 1000 = mod-lt (word seed (1 + 2 * n + a)) some in
    (omega (arith, e), omega (arith, e, w))

pub plain_is_proposed : (seed n : ℕ) → 2 ≤ n → n ≤ 24 → IsProposed (plain_deal seed n)
unfolding plain_deal
plain_is_proposed seed n many few =
    let g : Graph = drawn_graph seed n in
    let sound = arcs_are_sound seed n many in
    let ringed = arcs_have_ring seed n in
    let low = leaders_are_low seed n many in
    let l1 = low.some in
    let l2 = low.few in
    let l3 = low.below in
    let a1 = ringed.many in
    let a2 = ringed.few in
    let size : length (range_with_len 0 (leader_count seed n)) ≡ leader_count seed n = length-range_with_len 0 (leader_count seed n) in
    let feedback = rising_is_feedback g (range_with_len 0 (leader_count seed n)) (sound_rises g (leader_count seed n) sound) in
    record {
      parties = (many, few);
      arcs = (omega arith, omega arith);
      ends = has_ends n One (drawn_arcs seed n) (sym sound.faultless);
      of_version = sound.apart;
      strong = ring_is_strong g (omega arith) ringed.ring;
      leaders = (omega (arith, size), omega (arith, size));
      leader = λ i lt. let e = leader_is (leader_count seed n) i (omega (arith, size)) in omega (arith, e, size);
      apart = λ i j li lj s. sym (leader_is (leader_count seed n) i (omega (arith, size))) ∙ s ∙ leader_is (leader_count seed n) j (omega (arith, size));
      led = tt;
      feedback = feedback;
      height = greatest_level g (range_with_len 0 (leader_count seed n));
      is_height = greatest_level_is_height g (range_with_len 0 (leader_count seed n)) feedback;
      delta = (omega arith, omega arith);
      start = (omega arith, omega arith);
      bound = (min-le_left (n - 1) _, omega arith);
      one_amount_each = length-map-range_with_len (drawn_amount seed n) 0 (length (drawn_arcs seed n));
      amounts = λ a lt. amount_within seed n (length (drawn_arcs seed n)) a lt;
    }
