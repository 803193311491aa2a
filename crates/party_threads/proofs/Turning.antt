-- Turns by their numbers: what each took and did.
use Rattle.std.proofs.Common.{◌≡◌, ℕ, zero, suc, ◌<◌, false, Bool, List, [], ◌∷◌, length, slice_get, get_or, Option, Some, refl, sym, ap, ◌∙◌, subst, arith}
use Rattle.std.proofs.Common.{cond, filter, inl, inr}
use Rattle.swap_base.specs.Lists.{IsElement}
use Rattle.std.proofs.lemmas.Option.{slice_get-get_or}
use Rattle.swap_digraph.specs.declared.deal.Deal.{Deal}
use Rattle.swap_job.specs.declared.job.Job.{Job}
use Rattle.swap_world.specs.Gone.{MayGive}
use Rattle.party_threads.specs.declared.turn.Turn.{Turn}
use Rattle.party_threads.specs.Later.{HaveAdvanced}
use Rattle.party_threads.specs.Ticks.{HaveClocksAdvanced}
use Rattle.party_threads.specs.Took.{IsSameActor, Did, Took}
use Rattle.party_threads.specs.Turns.{numbered_actor, held_passes, held_clocks, HavePlaces, IsSameShape}

pub get_there : {A : Type 0} (xs : List A) (k : ℕ) → k < length xs → (x : A) × (slice_get xs k ≡ Some x)
get_there [] k lt = absurd (omega arith)
get_there (x ∷ xs) zero lt = (x, refl)
get_there (x ∷ xs) (suc k) lt = get_there xs k (omega arith)

-- nothing passes a test that every member fails
pub none_pass : {A : Type 0} (p : A → Bool) (xs : List A) → ((x : A) → IsElement x xs → p x ≡ false) → filter p xs ≡ []
none_pass p [] f = refl
none_pass {A} p (x ∷ xs) f =
    ap (λ c. cond {A = List A} c (x ∷ filter p xs) (filter p xs)) (f x (inl refl)) ∙ none_pass p xs (λ y i. f y (inr i))

-- What the turn of an actor took and did, whether memory was enough or not.
pub record HasTaken (o p : Option Turn) : Type 0 where
  pub actor : IsSameActor (numbered_actor o) (numbered_actor p)
  pub passes : HaveAdvanced (held_passes o) (held_passes p)
  pub places : length (held_passes p) ≡ length (held_passes o)
  pub clocks : HaveClocksAdvanced (held_clocks o) (held_clocks p)
  pub clock_places : length (held_clocks p) ≡ length (held_clocks o)

abbrev pub HasDone : MayGive → Job → ℕ → ℕ → Option Turn → Option Turn → Type 0
HasDone gives job ticks v o p = Did gives job ticks v (held_passes o) (held_passes p) (held_clocks o) (held_clocks p) (numbered_actor o) (numbered_actor p)

module _ (gives : MayGive) (job : Job) (ticks : ℕ) (ts us : List Turn) (same : length us ≡ length ts)
    (took : (i : ℕ) (t : Turn) → i < length ts → Took gives job ticks i (get_or ts i t) (get_or us i t)) where
  -- whatever holds of two turns of one number holds where they stand
  of_two : (P : Option Turn → Option Turn → Type 0) (v : ℕ) (t : Turn) → v < length ts → P (Some (get_or ts v t)) (Some (get_or us v t))
      → P (slice_get ts v) (slice_get us v)
  of_two P v t lt at =
      let a : slice_get ts v ≡ Some (get_or ts v t) = slice_get-get_or ts v t lt in
      let b : slice_get us v ≡ Some (get_or us v t) = slice_get-get_or us v t (subst (λ n. v < n) (sym same) lt) in
      subst (λ (w : Option Turn × Option Turn). P w.0 w.1) (λ i. (sym a i, sym b i)) at

  taken_text : (v : ℕ) (t u : Turn) → Took gives job ticks v t u → HasTaken (Some t) (Some u)
  taken_text v t u k = record { actor = k.actor; passes = k.passes; places = k.places; clocks = k.clocks; clock_places = k.clock_places }

  pub taken_at : (v : ℕ) → v < length ts → HasTaken (slice_get ts v) (slice_get us v)
  taken_at v lt =
      let t = get_there ts v lt in
      of_two HasTaken v t.0 lt (taken_text v (get_or ts v t.0) (get_or us v t.0) (took v t.0 lt))

  pub done_at : ((i : ℕ) (t : Turn) → i < length us → (get_or us i t).failed ≡ false) → (v : ℕ) → v < length ts
      → HasDone gives job ticks v (slice_get ts v) (slice_get us v)
  done_at ok v lt =
      let t = get_there ts v lt in
      of_two (HasDone gives job ticks v) v t.0 lt ((took v t.0 lt).did (ok v t.0 (subst (λ n. v < n) (sym same) lt)))

-- places stay
pub places_kept : (d : Deal) (ts us : List Turn) → IsSameShape ts us → HavePlaces d ts → HavePlaces d us
places_kept d ts us s h = record {
  actors = s.number ∙ h.actors;
  passes = λ v l. s.places v ∙ h.passes v l;
  clocks = s.clock_places d.graph.n ∙ h.clocks;
}

pub places_taken : (d : Deal) (ts us : List Turn) → length us ≡ length ts → ((v : ℕ) → v < length ts → HasTaken (slice_get ts v) (slice_get us v))
    → HavePlaces d ts
    → HavePlaces d us
places_taken d ts us e taken h = record {
  actors = e ∙ h.actors;
  passes = λ v l. let n = h.actors in (taken v (omega (arith, n, l))).places ∙ h.passes v l;
  clocks = let n = h.actors in (taken d.graph.n (omega (arith, n))).clock_places ∙ h.clocks;
}
