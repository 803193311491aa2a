-- What a payment does to many worlds.
use Rattle.std.proofs.Common.{◌≡◌, ℕ, ◌<◌, Bool, true, false, cond, length, refl, ap, ◌∙◌, IsTrue}
use Rattle.std.proofs.lemmas.List.{length-set}
use Rattle.swap_world.specs.Gone.{MayGive}
use Rattle.swap_many.specs.declared.many_event.ManyEvent.TheVariants.{Pay}
use Rattle.swap_many.specs.Accounts.{ChainState, account_units}
use Rattle.swap_many.specs.Chains.{put, paid, is_accepted_deed, reply_to_payment, Units}
use Rattle.swap_many.specs.Kept.{Kept, Time, kept_done}
use Rattle.swap_many.specs.Laws.{CanPay}
use Rattle.swap_many.specs.Value.{ManyState, nth_chain, world_setup, many_kept, AreSame, HasManyGone}
use Rattle.swap_many.specs.Inside.{AreWhole}
use Rattle.swap_many.proofs.Projections.{put_still}
use Rattle.swap_many.proofs.Values.{can_for, with_chain, each_chain, chain_kept, whole_next, sound_step, all_same}

-- What a payment does to a chain.
pub record IsPaid (old new : ChainState) (from to units : ℕ) : Type 0 where
  pub refused : is_accepted_deed (reply_to_payment (account_units old.free from) units) ≡ false → new ≡ old
  pub paid : IsTrue (is_accepted_deed (reply_to_payment (account_units old.free from) units)) → account_units new.free ≡ paid (account_units old.free) from to units
  pub clock : new.clock ≡ old.clock
  pub count : length new.free ≡ length old.free

module _ (gives : MayGive) (w : ManyState) (i : ℕ) (x : ChainState) (low : i < length w.chains) where
  pub chain_same : AreSame gives w (with_chain w i x low)
  chain_same = let k = all_same gives w in record { swaps = k.swaps; casts = k.casts; asked = k.asked; places = k.places; openings = k.openings }

  module _ (from to units : ℕ) where
    pub paid_gone : IsPaid (nth_chain w i) x from to units → HasManyGone gives (λ m z. kept_done false m z (Pay i from to units)) w (with_chain w i x low)
    paid_gone k = record {
      same = chain_same;
      goes_on = refl;
      kept =
          λ g c. chain_kept w i x low
          ∙ (ap (λ (c : ℕ → Time). let z : Kept = record (many_kept w) { clocks = c; free = put (many_kept w).free i (account_units x.free) } in z)
          (put_still (many_kept w).clocks i x.clock k.clock)
          ∙ go (is_accepted_deed (reply_to_payment (account_units (nth_chain w i).free from) units)) refl);
    }
      where
        go : (b : Bool) → is_accepted_deed (reply_to_payment (account_units (nth_chain w i).free from) units) ≡ b
            → (let z : Kept = record (many_kept w) { free = put (many_kept w).free i (account_units x.free) } in z)
            ≡ cond b (record (many_kept w) { free = put (many_kept w).free i (paid (account_units (nth_chain w i).free) from to units) }) (many_kept w)
        go true e = ap (λ (u : Units). let z : Kept = record (many_kept w) { free = put (many_kept w).free i u } in z) (k.paid e)
        go false e =
            ap (λ (f : ℕ → Units). let z : Kept = record (many_kept w) { free = f } in z)
            (put_still (many_kept w).free i (account_units x.free) (ap (λ (y : ChainState). account_units y.free) (k.refused e)))

    pub paid_whole : AreWhole w → w.stopped ≡ false → CanPay (world_setup w) i from to → IsPaid (nth_chain w i) x from to units
        → AreWhole (with_chain w i x low)
    paid_whole whole on can k =
        whole_next gives w (with_chain w i x low) whole chain_same (length-set w.chains i x)
        (each_chain w i x low (λ j y. length y.free ≡ length (nth_chain w j).free) k.count (λ j. refl)) refl (λ s. refl) whole.on
        (λ q. sound_step gives w (with_chain w i x low) false (Pay i from to units) whole on (λ g. can_for w g (Pay i from to units) can) (paid_gone k))
        whole.kept
