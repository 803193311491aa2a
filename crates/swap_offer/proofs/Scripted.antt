-- The moves of a header's scripts may come, whatever comes before them.
use Rattle.std.proofs.Common.{◌≡◌, ℕ, zero, suc, ◌+◌, ◌<◌, Bool, true, nat_lt, nat_eq, eq-eqb, ltb-true, length, get_or, List, [], ◌∷◌, None}
use Rattle.std.proofs.Common.{is_some, slice_index_or, Result, Ok, refl, sym, ap, ◌∙◌, subst, arith}
use Rattle.std.specs.List.{All}
use Rattle.std.proofs.lemmas.List.Elements.{All-get_or, All-from_get_or}
use Rattle.swap_base.specs.Fault.{steps}
use Rattle.swap_base.specs.Lists.{IsElement}
use Rattle.swap_base.proofs.Lists.{in_place, list_all-in, list_all-from, list_any-in}
use Rattle.swap_digraph.specs.Value.{Graph}
use Rattle.swap_digraph.specs.Graph.{HasEnds}
use Rattle.swap_digraph.specs.Deal.{IsWellSized, version_path_limit}
use Rattle.swap_digraph.specs.declared.deal.Version.{Version}
use Rattle.swap_digraph.specs.declared.arc_ends.ArcEnds.{ArcEnds}
use Rattle.swap_job.specs.Fitting.{IsPartyMove}
use Rattle.swap_job.specs.Roles.{job_role, role_script}
use Rattle.swap_job.specs.declared.job.Job.{Job}
use Rattle.swap_job.specs.declared.job.Purpose.{Purpose}
use Rattle.swap_job.specs.declared.job.Purpose.TheVariants.{Check, Run, Race, Make, Audit}
use Rattle.swap_job.specs.declared.job.Role.{Role}
use Rattle.swap_job.specs.declared.job.Role.TheVariants as kinds
use Rattle.swap_job.specs.declared.moves.Move.{Move}
use Rattle.swap_job.specs.declared.moves.Move.TheVariants.{Publish, Craft, Replay, Raw, Claim, Refund, Transfer, Wait}
use Rattle.offer_moves.specs.declared.moves.Sizes.{Sizes}
use Rattle.offer_moves.specs.Kept.{AreBoundedCrafters, AreSeeded, IsMadeMove}
use Rattle.offer_moves.specs.Placed.{placed}
use Rattle.offer_moves.proofs.Made.{placed_fits}
use Rattle.offer_moves.proofs.Chains.{went}
use Rattle.offer_header.specs.Header.{IsHeaderInLimits}
use Rattle.offer_header.specs.Scripts.{role_placed, roles_placed, scripts_placed, AreMade}
use Rattle.offer_header.specs.declared.header.Header.{Header}
use Rattle.swap_offer.specs.Checks.{header_deal, assemble_job}
use Rattle.swap_offer.specs.Wallets.{crafts, role_crafts, seeded, HaveScripts, HaveRequiredScripts}
use Rattle.swap_offer.proofs.Seeds.{crafters_seeded, asks_in_run, asks_in_race, asks_to_make, AsksCrafters}
use Rattle.swap_offer.proofs.Size.{is_sized}

-- Each move is placed.

each_step : {A R : Type 0} (f : A → Result (Unit {0}) R) (xs : List A) → steps (λ u x. f x) tt xs ≡ Ok tt → (i : ℕ) (d : A) → i < length xs
    → f (get_or xs i d) ≡ Ok tt
unfolding steps
each_step f [] e i d lt = absurd (omega arith)
each_step f (x ∷ xs) e zero d lt = (went (f x) (λ u. steps (λ u x. f x) u xs) tt e).1
each_step f (x ∷ xs) e (suc i) d lt = each_step f xs (went (f x) (λ u. steps (λ u x. f x) u xs) tt e).2 i d (omega arith)

module _ (arcs : List ArcEnds) (conforming : List Bool) (line : ℕ) where
  in_role : (p : ℕ) (role : Role) → role_placed arcs conforming line p role ≡ Ok tt → (i : ℕ) (d : Move) → i < length (role_script role)
      → placed arcs conforming line p (get_or (role_script role) i d) ≡ Ok tt
  in_role p (kinds.Script moves) e i d lt = each_step (placed arcs conforming line p) moves e i d lt
  in_role p kinds.Conforming e i d lt = absurd (omega arith)
  in_role p kinds.Manual e i d lt = absurd (omega arith)
  in_role p (kinds.Strategy name) e i d lt = absurd (omega arith)

  each_role : (k : ℕ) (roles : List Role) → roles_placed arcs conforming line k roles ≡ Ok tt → (i : ℕ) (d : Role) → i < length roles
      → role_placed arcs conforming line (k + i) (get_or roles i d) ≡ Ok tt
  unfolding roles_placed
  each_role k [] e i d lt = absurd (omega arith)
  each_role k (r ∷ roles) e zero d lt =
      let z : k ≡ k + 0 = omega arith in
      subst (λ (p : ℕ). role_placed arcs conforming line p r ≡ Ok tt) z
      (went (role_placed arcs conforming line k r) (λ u. roles_placed arcs conforming line (k + 1) roles) tt e).1
  each_role k (r ∷ roles) e (suc i) d lt =
      let z : (k + 1) + i ≡ k + suc i = omega arith in
      subst (λ (p : ℕ). role_placed arcs conforming line p (get_or roles i d) ≡ Ok tt) z
      (each_role (k + 1) roles (went (role_placed arcs conforming line k r) (λ u. roles_placed arcs conforming line (k + 1) roles) tt e).2 i d (omega arith))

-- The parties that craft have seeds.

module _ (job : Job) (u : Unit {0}) (asks : AsksCrafters job) (have : seeded job ≡ Ok u) where
  seeds_there : (role : Role) (mv : Move) → IsElement role job.roles → IsElement mv (role_script role) → AreBoundedCrafters job.deal.graph.n mv → AreSeeded job.seeds mv
  seeds_there role (Craft a lock via onto) among within below =
      list_all-from (λ v. is_some (slice_index_or job.seeds v None)) via (λ v i.
      let one : crafts v (Craft a lock via onto) ≡ true = list_any-in (nat_eq v) via v (eq-eqb v v refl) i in
      let two : role_crafts v role ≡ true = list_any-in (crafts v) (role_script role) (Craft a lock via onto) one within in
      crafters_seeded job u asks have v (ltb-true v job.deal.graph.n (list_all-in (λ x. nat_lt x job.deal.graph.n) via v below i))
      (list_any-in (role_crafts v) job.roles role two among))
  seeds_there role (Publish a start delta bound timelock amount locks) among within below = tt
  seeds_there role (Replay a lock onto) among within below = tt
  seeds_there role (Raw a key) among within below = tt
  seeds_there role (Claim a) among within below = tt
  seeds_there role (Refund a) among within below = tt
  seeds_there role (Transfer a to units) among within below = tt
  seeds_there role (Wait a height) among within below = tt

sized : ℕ → ℕ → Version → Sizes
sized a l v = record { arcs = a; locks = l; path = version_path_limit v }

fit : (h : Header) (g : Graph) (line : ℕ) (u : Unit {0}) → IsHeaderInLimits h → HasEnds g → g.n ≡ length h.names → g.arcs ≡ h.arcs → AreMade line h
    → scripts_placed line h ≡ Ok tt → AsksCrafters (assemble_job h g) → seeded (assemble_job h g) ≡ Ok u → HaveScripts (assemble_job h g)
unfolding scripts_placed sized
fit h g line u k has n arcs made are asks have p lt =
    let d = header_deal h g in
    let w : IsWellSized d = is_sized h g d.id k has n arcs in
    let below : p < length h.roles = subst (λ (m : ℕ). p < m) (n ∙ sym k.roles) lt in
    let own = made d h.seeds w (ap (λ (xs : List ArcEnds). sized (length xs) (length h.leaders) h.version) arcs) n in
    let role = job_role (assemble_job h g) p in
    let z : 0 + p ≡ p = omega arith in
    let here = subst (λ (q : ℕ). role_placed h.arcs h.conforming line q role ≡ Ok tt) z
    (each_role h.arcs h.conforming line 0 h.roles are p kinds.Manual below) in
    All-from_get_or (IsPartyMove d h.seeds p) (role_script role) (Claim 0) (λ i l.
    let mv = get_or (role_script role) i (Claim 0) in
    let m = All-get_or (IsMadeMove d h.seeds line) (role_script role) i (Claim 0) l
    (All-get_or (λ (r : Role). All (IsMadeMove d h.seeds line) (role_script r)) h.roles p kinds.Manual below own) in
    let seeds = seeds_there (assemble_job h g) u asks have role mv (in_place h.roles p kinds.Manual below) (in_place (role_script role) i
    (Claim 0) l) m.below in
    let f = placed_fits d h.conforming h.seeds line p mv tt m seeds
    (subst (λ (xs : List ArcEnds). placed xs h.conforming line p mv ≡ Ok tt) (sym arcs) (in_role h.arcs h.conforming line p role here i (Claim 0) l)) in
    record { fits = f.0; adjacent = f.1 })

pub scripts_for : (h : Header) (g : Graph) (line : ℕ) (u : Unit {0}) → IsHeaderInLimits h → HasEnds g → g.n ≡ length h.names → g.arcs ≡ h.arcs → AreMade line h
    → scripts_placed line h ≡ Ok tt → seeded (assemble_job h g) ≡ Ok u → HaveRequiredScripts h.purpose (assemble_job h g)
scripts_for h g line u k has n arcs made are have = by h.purpose refl
  where
    by : (purpose : Purpose) → h.purpose ≡ purpose → HaveRequiredScripts purpose (assemble_job h g)
    by Check e = tt
    by Run e = fit h g line u k has n arcs made are (asks_in_run (assemble_job h g) e) have
    by Race e = fit h g line u k has n arcs made are (asks_in_race (assemble_job h g) e) have
    by Make e = fit h g line u k has n arcs made are (asks_to_make (assemble_job h g) e) have
    by Audit e = tt
