-- Rounds that only take their ticks, and a round after them.
use Rattle.std.proofs.Common.{◌≡◌, ℕ, suc, ◌+◌, ◌-◌, ◌≤◌, sym, ap, ◌∙◌, arith}
use Rattle.swap_run.specs.Asked.{Answers}
use Rattle.swap_run.specs.Fair.{repeat}
use Rattle.swap_world.specs.Gone.{MayGive}
use Rattle.swap_many.specs.Kept.{Kept}
use Rattle.swap_many.specs.Fair.{kept_ticks, kept_round, kept_round_or_rest, SkipsKeptRounds}
use Rattle.swap_many.specs.Value.{ManyState, AreReady, made_setup, many_kept, HasManyGone, IsManyStopped}
use Rattle.swap_many.proofs.Way.{round_steps}
use Rattle.swap_many.proofs.Gone.{LeadOn, gone_as, gone_then, leads_repeat, stopped_as, stopped_then, stopped_after}
use Rattle.swap_many.proofs.Turning.{ticks_lead, unless_leads}
use Rattle.swap_world.proofs.Ways.{repeat_split}

module _ (gives : MayGive) (old mid new : ManyState) (n : ℕ) (ready : AreReady old)
    (skips : (g : ℕ → Answers) → SkipsKeptRounds (made_setup old g) n (many_kept old)) where
  are_rounds : (g : ℕ → Answers) → kept_round (made_setup old g) (repeat n (kept_ticks (made_setup old g)) (many_kept old))
      ≡ repeat (n + 1) (kept_round_or_rest (made_setup old g)) (many_kept old)
  are_rounds g = let e : suc n ≡ n + 1 = omega arith in sym (skips g) ∙ ap (λ k. repeat k (kept_round_or_rest (made_setup old g)) (many_kept old)) e

  round_leads : LeadOn old kept_round
  round_leads g z = round_steps (made_setup old g) (ready g) z

  passes_lead : LeadOn old (λ m z. repeat n (kept_ticks m) z)
  passes_lead = leads_repeat old ready kept_ticks (ticks_lead old ready) n

  -- memory ran out within so many rounds, of at most `most`
  within : (most : ℕ) → n ≤ most - 1 → 1 ≤ most → IsManyStopped gives (λ m z. repeat (n + 1) (kept_round_or_rest m) z) old new
      → (k : ℕ) × (k ≤ most) × IsManyStopped gives (λ m z. repeat k (kept_round_or_rest m) z) old new
  within most few some k = (n + 1, omega (arith, few, some), k)

  pub advance_cut : (most : ℕ) → n ≤ most - 1 → 1 ≤ most → IsManyStopped gives (λ m z. repeat n (kept_ticks m) z) old new
      → (k : ℕ) × (k ≤ most) × IsManyStopped gives (λ m z. repeat k (kept_round_or_rest m) z) old new
  advance_cut most few some k =
      within most few some (stopped_as gives (λ m z. kept_round m (repeat n (kept_ticks m) z)) (λ m z. repeat (n + 1) (kept_round_or_rest m) z) old new are_rounds
      (stopped_then gives (λ m z. repeat n (kept_ticks m) z) kept_round old new ready round_leads k))

  pub advance_ends : HasManyGone gives (λ m z. repeat n (kept_ticks m) z) old mid → HasManyGone gives kept_round mid new
      → HasManyGone gives (λ m z. repeat (n + 1) (kept_round_or_rest m) z) old new
  advance_ends a b =
      gone_as gives (λ m z. kept_round m (repeat n (kept_ticks m) z)) (λ m z. repeat (n + 1) (kept_round_or_rest m) z) old new are_rounds
      (gone_then gives (λ m z. repeat n (kept_ticks m) z) kept_round old mid new a b)

  pub advance_stops : (most : ℕ) → n ≤ most - 1 → 1 ≤ most → HasManyGone gives (λ m z. repeat n (kept_ticks m) z) old mid
      → IsManyStopped gives kept_round mid new → (k : ℕ) × (k ≤ most) × IsManyStopped gives (λ m z. repeat k (kept_round_or_rest m) z) old new
  advance_stops most few some a k =
      within most few some (stopped_as gives (λ m z. kept_round m (repeat n (kept_ticks m) z)) (λ m z. repeat (n + 1) (kept_round_or_rest m) z) old new are_rounds
      (stopped_after gives (λ m z. repeat n (kept_ticks m) z) kept_round old mid new ready passes_lead a k))

-- Of all rounds some are left, and n of these are taken.
module _ (gives : MayGive) (old mid new : ManyState) (all left n : ℕ) (few : left ≤ all) (less : n ≤ left)
    (so_far : HasManyGone gives (λ m z. repeat (all - left) (kept_round_or_rest m) z) old mid) where
  in_a_row : (f : Kept → Kept) (z : Kept) → repeat n f (repeat (all - left) f z) ≡ repeat (all - (left - n)) f z
  in_a_row f z =
      let e : n + (all - left) ≡ all - (left - n) = omega (arith, few, less) in
      sym (repeat_split n (all - left) f z) ∙ ap (λ k. repeat k f z) e

  pub goes_further : HasManyGone gives (λ m z. repeat n (kept_round_or_rest m) z) mid new
      → HasManyGone gives (λ m z. repeat (all - (left - n)) (kept_round_or_rest m) z) old new
  goes_further h =
      gone_as gives (λ m z. repeat n (kept_round_or_rest m) (repeat (all - left) (kept_round_or_rest m) z))
      (λ m z. repeat (all - (left - n)) (kept_round_or_rest m) z) old new
      (λ g. in_a_row (kept_round_or_rest (made_setup old g)) (many_kept old))
      (gone_then gives (λ m z. repeat (all - left) (kept_round_or_rest m) z) (λ m z. repeat n (kept_round_or_rest m) z) old mid new so_far h)

  all_of_them : (f : Kept → Kept) (z : Kept) → repeat (left - n) f (repeat n f (repeat (all - left) f z)) ≡ repeat all f z
  all_of_them f z =
      let e : (left - n) + (all - (left - n)) ≡ all = omega (arith, few, less) in
      ap (λ t. repeat (left - n) f t) (in_a_row f z) ∙ (sym (repeat_split (left - n) (all - (left - n)) f z) ∙ ap (λ k. repeat k f z) e)

  pub stops_further : AreReady old → IsManyStopped gives (λ m z. repeat n (kept_round_or_rest m) z) mid new
      → IsManyStopped gives (λ m z. repeat all (kept_round_or_rest m) z) old new
  stops_further ready k =
      let leads = λ (i : ℕ). leads_repeat old ready kept_round_or_rest (unless_leads old ready) i in
      stopped_as gives (λ m z. repeat (left - n) (kept_round_or_rest m) (repeat n (kept_round_or_rest m) (repeat (all - left) (kept_round_or_rest m) z)))
      (λ m z. repeat all (kept_round_or_rest m) z) old new (λ g. all_of_them (kept_round_or_rest (made_setup old g)) (many_kept old))
      (stopped_then gives (λ m z. repeat n (kept_round_or_rest m) (repeat (all - left) (kept_round_or_rest m) z))
      (λ m z. repeat (left - n) (kept_round_or_rest m) z) old new ready (leads (left - n))
      (stopped_after gives (λ m z. repeat (all - left) (kept_round_or_rest m) z) (λ m z. repeat n (kept_round_or_rest m) z) old mid new ready
      (leads (all - left)) so_far k))
