-- What a party did, and what came of it, in a book and in what is told of it.
use Rattle.std.proofs.Common.{◌≡◌, ℕ, ◌<◌, ◌==◌, nat_lt, Bool, true, false, cond, ◌&&◌, length, filter, count_by, sym, ap, ap₂, ◌∙◌, subst}
use Rattle.std.specs.Prelude.{IsTrue}
use Rattle.time_bounds.specs.Times as times
use Rattle.swap_digraph.specs.declared.deal.Deal.{Deal}
use Rattle.swap_digraph.specs.Graph.{leaving, entering}
use Rattle.ledger_core.specs.Book.{Histories, history}
use Rattle.swap_rules.specs.declared.outcome.Outcome.TheVariants.{NoDeal, FreeRide, Underwater, Deal as WholeDeal, Discount}
use Rattle.swap_rules.specs.Party.{is_arc_correct}
use Rattle.swap_rules.specs.Outcome.{outcome, is_got, is_claim, got, lost}
use Rattle.wallet_promise.specs.WithoutNoise.{tellings, is_useless, is_needed, needs, all_needed}
use Rattle.wallet_promise.specs.BookLaws.{HoldsAsTold, AllHoldsAsTold, AllOutcomesAreTold, NeededHoldsAsTold}
use Rattle.wallet_promise.proofs.Telling.{history_is, say_tellings}
use Rattle.wallet_promise.proofs.Needed.{part_is, all_told}
use Rattle.wallet_promise.proofs.Saying as saying
use Rattle.wallet_promise.proofs.Enough as enough
use Rattle.wallet_promise.proofs.Books as books
use Rattle.wallet_promise.proofs.Watching as watching

module _ (d : Deal) (v : ℕ) (u : ℕ → Bool) (b c : Histories) (is_part : (a : ℕ) → history c a ≡ filter (is_needed (u a) v) (history b a))
    (idle : (a : ℕ) → u a ≡ true → is_useless d v a (history b a) ≡ true) where
  pub holds_as_told : HoldsAsTold d v c b
  holds_as_told =
      let heights = books.heights_at d v u b c is_part idle in
      record {
        conduct = (
          λ k a. subst IsTrue (books.same_conduct d v u b c is_part idle a) (k a),
          λ k a. subst IsTrue (sym (books.same_conduct d v u b c is_part idle a)) (k a),
        );
        refs = books.same_ref d v u b c is_part idle;
        late = books.same_late d v u b c is_part idle;
        watchful = (watching.whole d v u b c is_part idle, watching.told d v u b c is_part idle);
        unforged = (books.forged_whole d v u b c is_part idle, books.forged_told d v u b c is_part idle);
        same_outcome = enough.same_outcome d v c b (books.enough_said d v u b c is_part idle);
        ended = (
          λ e a l. subst (λ n. times.horizon d.start d.delta d.bound < n) (heights a) (e a l),
          λ e a l. subst (λ n. times.horizon d.start d.delta d.bound < n) (sym (heights a)) (e a l),
        );
      }

pub all_holds_as_told : AllHoldsAsTold
all_holds_as_told d v b =
    holds_as_told d v (λ a. false) b (tellings v b) (λ a. history_is v b a ∙ sym (all_told v (history b a))) (λ a e. absurd (cc e))

pub needed_holds_as_told : NeededHoldsAsTold
needed_holds_as_told d v b =
    holds_as_told d v (λ a. is_useless d v a (history b a)) b (all_needed d v b) (part_is (needs d v b) b) (λ a e. e)

-- Without noise all parties come out as they did.

module _ (d : Deal) (v : ℕ) (b : Histories) where
  same_got_at : (a : ℕ) → is_got d (tellings v b) a ≡ is_got d b a
  same_got_at a = ap₂ (λ x y. is_arc_correct d a x && is_claim y) (say_tellings v b a).published (say_tellings v b a).settled

  same_got : (u : ℕ) → got d (tellings v b) u ≡ got d b u
  same_got u = ap (λ (f : ℕ → Bool). count_by f (entering d.graph u)) (λ j a. same_got_at a j)

  same_lost : (u : ℕ) → lost d (tellings v b) u ≡ lost d b u
  same_lost u =
      ap (λ (f : ℕ → Bool). count_by f (leaving d.graph u)) (λ j a. saying.same_trigger d v (tellings v b) b (say_tellings v b) a j)

  same_outcome : (u : ℕ) → outcome d (tellings v b) u ≡ outcome d b u
  unfolding outcome
  same_outcome u =
      ap₂ (λ n m. cond (n == 0) (cond (m == 0) NoDeal FreeRide) (cond (nat_lt m (length (entering d.graph u))) Underwater
      (cond (n == length (leaving d.graph u)) WholeDeal Discount))) (same_lost u) (same_got u)

pub all_outcomes_are_told : AllOutcomesAreTold
all_outcomes_are_told d v u b = same_outcome d v b u
