-- The next event of a generator.
use Rattle.std.proofs.Common.{◌≡◌, ◌≢◌, ℕ, ◌%◌, ◌<◌, ◌≤◌, ◌==◌, ◌||◌, nat_le, Bool, false, cond, List, length, get_or, sym, ap}
use Rattle.std.proofs.Common.{◌∙◌, subst, arith, eq-eqb, le-leb}
use Rattle.std.proofs.Math.Nat.{mod-lt}
use Rattle.std.proofs.lemmas.Bool.{ne_eqb}
use Rattle.swap_digraph.specs.Graph.{arcs, ends}
use Rattle.swap_digraph.specs.Value.{Graph}
use Rattle.swap_digraph.proofs.Ranges.{place_below, place_is}
use Rattle.swap_job.specs.declared.event.Event.{Event}
use Rattle.swap_job.specs.declared.event.Event.TheVariants.{Tick, Look, Act}
use Rattle.swap_job.specs.declared.job.Job.{Job}
use Rattle.swap_job.specs.Step.{IsJobEvent}
use Rattle.std.proofs.lemmas.List.FromFn.{length-range_with_len}
use Rattle.swap_gen.specs.Word.{word, next, DrawState}
use Rattle.swap_gen.specs.Drawn.{drawn_arcs, drawn_graph, generated}
use Rattle.swap_gen.specs.Events.{touching, picked, drawn_event, GeneratorState}
use Rattle.swap_gen.specs.Inside.{generator_state, GeneratorHolds}
use Rattle.swap_gen.specs.declared.generator.Generator.TheInside.{Inside}
use Rattle.swap_gen.proofs.Rings.{arcs_have_ring}
use Rattle.swap_gen.proofs.Stepping.{touching_some, length-filter}
use Rattle.swap_gen.proofs.Generated.{generated_graph, generated_steps}

-- What comes, by the first word.

abbrev entry_tick : (seed : ℕ) → Graph → (k : ℕ) → Event × ℕ
entry_tick seed g k = (Tick (word seed (next k) % length g.arcs) 1, next (next k))

abbrev look_of : (seed : ℕ) → Graph → (k : ℕ) → Event × ℕ
look_of seed g k = (Look (word seed (next k) % g.n) (picked (touching g (word seed (next k) % g.n)) (word seed (next (next k)))), next (next (next k)))

abbrev act_of : (seed : ℕ) → Graph → (k : ℕ) → Event × ℕ
act_of seed g k = (Act (word seed (next k) % g.n), next (next k))

abbrev by_kind : (seed : ℕ) → Graph → (k : ℕ) → Bool → Bool → Event × ℕ
by_kind seed g k tick look = cond {A = Event × ℕ} tick (entry_tick seed g k) (cond {A = Event × ℕ} look (look_of seed g k) (act_of seed g k))

tick_comes : (seed : ℕ) (g : Graph) (k : ℕ) → word seed k % 8 ≡ 0 → drawn_event seed g k ≡ entry_tick seed g k
unfolding drawn_event
tick_comes seed g k e = ap (λ b. by_kind seed g k b (nat_le (word seed k % 8) 4)) (eq-eqb (word seed k % 8) 0 e)

look_comes : (seed : ℕ) (g : Graph) (k : ℕ) → word seed k % 8 ≢ 0 → word seed k % 8 ≤ 4 → drawn_event seed g k ≡ look_of seed g k
unfolding drawn_event
look_comes seed g k some few =
    ap (λ b. by_kind seed g k b (nat_le (word seed k % 8) 4)) (ne_eqb (word seed k % 8) 0 some)
    ∙ ap (λ b. by_kind seed g k false b) (le-leb (word seed k % 8) 4 few)

-- What a generator holds.
module _ (i : Inside) (h : GeneratorHolds i) where
  pub graph_is : i.job.deal.graph ≡ drawn_graph i.draws.seed i.job.deal.graph.n
  graph_is = ap (λ (j : Job). j.deal.graph) h.job ∙ generated_graph i.draws.seed i.job.deal.graph.n

  pub arcs_some : 0 < length i.job.deal.graph.arcs
  arcs_some =
      let r = (arcs_have_ring i.draws.seed i.job.deal.graph.n).many in
      let e : length i.job.deal.graph.arcs ≡ length (drawn_arcs i.draws.seed i.job.deal.graph.n) = ap (λ (g : Graph). length g.arcs) graph_is in
      let m = h.parties.0 in
      omega (arith, r, e, m)

  pub arcs_few : length i.job.deal.graph.arcs ≤ 48
  arcs_few =
      let r = (arcs_have_ring i.draws.seed i.job.deal.graph.n).few in
      let e : length i.job.deal.graph.arcs ≡ length (drawn_arcs i.draws.seed i.job.deal.graph.n) = ap (λ (g : Graph). length g.arcs) graph_is in
      let m = h.parties.1 in
      omega (arith, r, e, m)

  pub party_below : (w n p : ℕ) → n ≡ i.job.deal.graph.n → p ≡ w % n → p < i.job.deal.graph.n
  party_below w n p size is =
      let m = h.parties.0 in
      let some : 0 < n = omega (arith, size, m) in
      let lt : w % n < n = mod-lt w some in
      omega (arith, lt, is, size)

  pub touching_at : (p : ℕ) (lists : List (List ℕ)) (xs : List ℕ) → lists ≡ i.touching → p < i.job.deal.graph.n → xs ≡ get_or lists p xs
      → xs ≡ touching i.job.deal.graph p
  touching_at p lists xs e lt is = place_is (touching i.job.deal.graph) i.job.deal.graph.n p lists xs (e ∙ h.touching) lt is

  pub touching_below : (p : ℕ) (lists : List (List ℕ)) → lists ≡ i.touching → p < i.job.deal.graph.n → p < length lists
  touching_below p lists e lt = place_below (touching i.job.deal.graph) i.job.deal.graph.n p lists (e ∙ h.touching) lt

  pub touching_many : (p : ℕ) → p < i.job.deal.graph.n → 0 < length (touching i.job.deal.graph p)
  touching_many p lt = subst (λ (g : Graph). 0 < length (touching g p)) (sym graph_is) (touching_some i.draws.seed i.job.deal.graph.n p lt)

  pub touching_few : (p : ℕ) → length (touching i.job.deal.graph p) ≤ 48
  touching_few p =
      let le = length-filter (λ a. (p == (ends i.job.deal.graph a).from) || (p == (ends i.job.deal.graph a).to)) (arcs i.job.deal.graph) in
      let e : length (arcs i.job.deal.graph) ≡ length i.job.deal.graph.arcs = length-range_with_len 0 (length i.job.deal.graph.arcs) in
      let few = arcs_few in
      omega (arith, le, e, few)

  -- the event that is next, as its callers see it
  module _ (s : GeneratorState) (view : generator_state i ≡ s) where
    abbrev wanted : Event
    wanted = (drawn_event s.seed (drawn_graph s.seed s.parties) s.place).0

    wanted_is : (drawn_event i.draws.seed i.job.deal.graph i.draws.place).0 ≡ wanted
    wanted_is =
        ap (λ (g : Graph). (drawn_event i.draws.seed g i.draws.place).0) graph_is
        ∙ ap (λ (t : GeneratorState). (drawn_event t.seed (drawn_graph t.seed t.parties) t.place).0) view

    pub tick_is : (w0 w1 m : ℕ) (drew : DrawState) → w0 ≡ word i.draws.seed i.draws.place → drew ≡ record i.draws { place = next i.draws.place }
        → w0 % 8 ≡ 0 → m ≡ length i.job.deal.graph.arcs → w1 ≡ word drew.seed drew.place % m → Tick w1 1 ≡ wanted
    tick_is w0 w1 m drew first on kind size second =
        let e : w1 ≡ word i.draws.seed (next i.draws.place) % length i.job.deal.graph.arcs =
        second ∙ ap (λ (t : DrawState). word t.seed t.place % m) on ∙ ap (λ k. word i.draws.seed (next i.draws.place) % k) size in
        ap (λ w. Tick w 1) e ∙ sym (ap (λ (r : Event × ℕ). r.0) (tick_comes i.draws.seed i.job.deal.graph i.draws.place (ap (λ w. w % 8) (sym first) ∙ kind)))
        ∙ wanted_is

    pub look_is : (w0 p a n : ℕ) (xs : List ℕ) (drew drew2 : DrawState) → w0 ≡ word i.draws.seed i.draws.place
        → drew ≡ record i.draws { place = next i.draws.place }
        → w0 % 8 ≢ 0 → w0 % 8 ≤ 4 → n ≡ i.job.deal.graph.n → p ≡ word drew.seed drew.place % n → drew2 ≡ record drew { place = next drew.place }
        → xs ≡ touching i.job.deal.graph p → a ≡ picked xs (word drew2.seed drew2.place) → Look p a ≡ wanted
    look_is w0 p a n xs drew drew2 first on some few size second on2 among third =
        let e : p ≡ word i.draws.seed (next i.draws.place) % i.job.deal.graph.n =
        second ∙ ap (λ (t : DrawState). word t.seed t.place % n) on ∙ ap (λ k. word i.draws.seed (next i.draws.place) % k) size in
        let f : a ≡ picked (touching i.job.deal.graph (word i.draws.seed (next i.draws.place) % i.job.deal.graph.n))
        (word i.draws.seed (next (next i.draws.place))) =
        third ∙ ap (λ (ys : List ℕ). picked ys (word drew2.seed drew2.place)) (among ∙ ap (touching i.job.deal.graph) e)
        ∙ ap (λ (t : DrawState). picked (touching i.job.deal.graph (word i.draws.seed (next i.draws.place) % i.job.deal.graph.n)) (word t.seed t.place)) (on2
        ∙ ap (λ (t : DrawState). record t { place = next t.place }) on) in
        let kind : w0 % 8 ≡ word i.draws.seed i.draws.place % 8 = ap (λ w. w % 8) first in
        ap (λ x. Look x a) e ∙ ap (λ y. Look (word i.draws.seed (next i.draws.place) % i.job.deal.graph.n) y) f
        ∙ sym (ap (λ (r : Event × ℕ). r.0) (look_comes i.draws.seed i.job.deal.graph i.draws.place (λ z. some (kind ∙ z)) (subst (λ k. k ≤ 4) kind few)))
        ∙ wanted_is

    pub steps : (e : Event) → e ≡ wanted → IsJobEvent (generated s.seed s.parties) e
    steps e is =
        subst (IsJobEvent (generated s.seed s.parties)) (sym is)
        (generated_steps s.seed s.parties s.place (subst (λ (t : GeneratorState). 2 ≤ t.parties) view h.parties.0))
