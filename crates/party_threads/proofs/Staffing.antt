-- The turns of a job's parties, one after another.
use Rattle.std.proofs.Common.{◌≡◌, ◌≢◌, ◌⊎◌, ℕ, ◌+◌, ◌<◌, List, [], ◌∷◌, ◌++◌, length, length-append, append_assoc, append-nil, slice_get, get_or, Some}
use Rattle.std.proofs.Common.{sym, ap, ◌∙◌, subst, inl, inr, arith}
use Rattle.std.proofs.lemmas.Option.{same_Some}
use Rattle.std.proofs.lemmas.List.{get_or_at, get_or_append_left}
use Rattle.swap_rules.proofs.Prefixes.{same_or_not}
use Rattle.swap_job.specs.declared.job.Job.{Job}
use Rattle.swap_world.specs.Actors.{team}
use Rattle.swap_world.specs.Players.{Racer}
use Rattle.swap_world.specs.declared.player.Player.TheVariants.{Manual}
use Rattle.swap_world.proofs.Team.{team_length, team_at}
use Rattle.party_threads.specs.declared.turn.Actor.TheVariants.{Party, Clock}
use Rattle.party_threads.specs.declared.turn.Turn.{Turn}
use Rattle.party_threads.specs.FirstTurns.{IsNewTurn, HasNewTurn, AreNew}
use Rattle.party_threads.proofs.Placing.{get_last, get_other}

-- The parties before these have their turns.
pub record IsStaffed (job : Job) (rest : List Racer) (ts : List Turn) : Type 0 where
  pub done : List Racer
  pub whole : done ++ rest ≡ team job
  pub number : length ts ≡ length done
  pub each : (v : ℕ) (t : Turn) → v < length done → slice_get ts v ≡ Some t → IsNewTurn job.deal (Party (get_or done v Manual)) t

pub staff_begins : (job : Job) (rest : List Racer) (ts : List Turn) → rest ≡ team job → ts ≡ [] → IsStaffed job rest ts
staff_begins job rest ts is empty = record { done = []; whole = is; number = ap length empty; each = λ v t lt e. absurd (omega (arith, lt)) }

module _ (job : Job) (rest : List Racer) (ts : List Turn) (k : IsStaffed job rest ts) where
  pub staff_goes_on : (x : Racer) (left : List Racer) (ts' : List Turn) → rest ≡ x ∷ left → HasNewTurn job.deal (Party x) ts ts' → IsStaffed job left ts'
  staff_goes_on x left ts' is new = record {
    done = k.done ++ x ∷ [];
    whole = append_assoc k.done (x ∷ []) left ∙ (ap (λ (r : List Racer). k.done ++ r) (sym is) ∙ k.whole);
    number = ap length new.added ∙ (length-append ts (new.turn ∷ []) ∙ (ap (λ n. n + 1) k.number ∙ sym (length-append k.done (x ∷ []))));
    each = λ v t lt e. at v t lt e (same_or_not v (length k.done));
  }
    where
      at : (v : ℕ) (t : Turn) → v < length (k.done ++ x ∷ []) → slice_get ts' v ≡ Some t → (v ≡ length k.done) ⊎ (v ≢ length k.done)
          → IsNewTurn job.deal (Party (get_or (k.done ++ x ∷ []) v Manual)) t
      at v t lt e (inl s) =
          let there : slice_get ts' v ≡ Some new.turn = ap (λ (xs : List Turn). slice_get xs v) new.added
          ∙ subst (λ j. slice_get (ts ++ new.turn ∷ []) j ≡ Some new.turn) (k.number ∙ sym s) (get_last ts new.turn) in
          let same : new.turn ≡ t = same_Some _ _ (sym there ∙ e) in
          subst (λ (y : Racer). IsNewTurn job.deal (Party y) t) (sym (get_or_at k.done x [] Manual v (sym s)))
          (subst (IsNewTurn job.deal (Party x)) same new.is)
      at v t lt e (inr n) =
          let q : ◌≢◌ {A = ℕ} v (length k.done) = n in
          let m : length (k.done ++ x ∷ []) ≡ length k.done + 1 = length-append k.done (x ∷ []) in
          let low : v < length k.done = omega (arith, lt, m, q) in
          let before : slice_get ts' v ≡ slice_get ts v =
          ap (λ (xs : List Turn). slice_get xs v) new.added ∙ get_other ts new.turn v (λ z. q (z ∙ k.number)) in
          subst (λ (y : Racer). IsNewTurn job.deal (Party y) t) (sym (get_or_append_left k.done (x ∷ []) Manual v low))
          (k.each v t low (sym before ∙ e))

  pub staff_ends : (ts' : List Turn) → rest ≡ [] → HasNewTurn job.deal Clock ts ts' → AreNew job ts'
  staff_ends ts' none new =
      let all : k.done ≡ team job = sym (append-nil k.done) ∙ (ap (λ (r : List Racer). k.done ++ r) (sym none) ∙ k.whole) in
      let many : length k.done ≡ job.deal.graph.n = ap length all ∙ team_length job in
      let count : length ts ≡ job.deal.graph.n = k.number ∙ many in
      record {
        number = ap length new.added ∙ (length-append ts (new.turn ∷ []) ∙ ap (λ n. n + 1) count);
        each = λ p t lt e.
            let before : slice_get ts' p ≡ slice_get ts p =
            ap (λ (xs : List Turn). slice_get xs p) new.added ∙ get_other ts new.turn p (λ q. omega (arith, q, count, lt)) in
            subst (λ (x : Racer). IsNewTurn job.deal (Party x) t)
            (ap (λ (xs : List Racer). get_or xs p Manual) all ∙ team_at job p lt)
            (k.each p t (subst (λ n. p < n) (sym many) lt) (sym before ∙ e));
        clock = λ t e.
            let there : slice_get ts' job.deal.graph.n ≡ Some new.turn = ap (λ (xs : List Turn). slice_get xs job.deal.graph.n) new.added
            ∙ subst (λ j. slice_get (ts ++ new.turn ∷ []) j ≡ Some new.turn) count (get_last ts new.turn) in
            subst (IsNewTurn job.deal Clock) (same_Some _ _ (sym there ∙ e)) new.is;
      }
