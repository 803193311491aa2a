-- A party that restarts stays sound, whether its last signature was recorded or not. It knows each
-- ledger that touches it to its end.
use Rattle.std.proofs.Common.{◌≡◌, ◌⊎◌, ℕ, ◌<◌, ◌≤◌, Bool, true, false, if◌then◌else◌, [], length, Option, refl, sym, ap}
use Rattle.std.proofs.Common.{◌∙◌, subst, inl, inr, arith}
use Rattle.std.proofs.lemmas.Bool.{cases_lt}
use Rattle.std.proofs.lemmas.List.FromFn.{get_or-map-range_with_len, length-map-range_with_len}
use Rattle.std.proofs.Math.ListN.{get_or-eq_default}
use Rattle.swap_base.specs.Lists.{IsElement}
use Rattle.swap_digraph.specs.declared.deal.Deal.{Deal}
use Rattle.hashkey_path.specs.declared.hashkey.Hashkey.{Hashkey}
use Rattle.ledger_core.specs.History.{IsLegal}
use Rattle.ledger_core.specs.Book.{Histories, history, IsLegalBook}
use Rattle.swap_job.specs.Fitting.{is_near}
use Rattle.party_wallet.specs.Value.{signed_hashkey}
use Rattle.swap_rules.specs.Accepted.{IsAccepted}
use Rattle.swap_rules.specs.Due.{Wallet, Action, due}
use Rattle.swap_rules.specs.Machine.{IsWallet, IsSound, KeepsRules, Knows, noted}
use Rattle.swap_rules.proofs.Prefixes.{begins_refl}
use Rattle.swap_rules.proofs.Due.{is_due}
use Rattle.swap_rules.proofs.Conducting.{own_more, knows_all}
use Rattle.swap_rules.proofs.Machines.{rules_transfer}
use Rattle.swap_run.specs.Run.{Notes, signed_through_call, relearnt}
use Rattle.swap_run.proofs.Noted.{Holds, due_now, low_lock, signed_is, signed_length}

module _ (d : Deal) (v : ℕ) (known after : Histories) (signed : ℕ → Option Hashkey) (legal : IsLegalBook d after)
    (knows : (a : ℕ) → Knows v (history known a) (history after a)) (rules : KeepsRules d known signed v) where
  -- nothing new was recorded
  restart_sound : IsSound d after signed v
  restart_sound = record { legal = legal; rules = rules_transfer d known after signed v knows rules }

  -- the hashkey of a due call was recorded, and the call wasn't made
  signing_sound : (w : Wallet) (x : Action) → IsWallet d v w → IsAccepted d → IsElement x (due d v w signed known) → IsSound d after (noted signed x.call) v
  signing_sound w x wallet fits i =
      let here = rules_transfer d known after signed v knows rules in
      let is = is_due d v w signed after known legal here knows wallet fits x i in
      record {
        legal = legal;
        rules = record {
          own =
              λ a past e c m q. own_more d after after signed (noted signed x.call) v a past c (λ b. begins_refl (history after b)) is.keeps_signed
              (here.own a past e c m q);
          keys = is.keys;
        };
      }

-- What is noted after a crash is right over the book.
module _ (d : Deal) (b : Histories) (n : Notes) (v : ℕ) (legal : IsLegalBook d b) (h : Holds d b n v) where
  after_length : length (relearnt d v b) ≡ length d.graph.arcs
  after_length = length-map-range_with_len (λ a. if is_near d v a then history b a else []) 0 (length d.graph.arcs)

  after_at : (a : ℕ) → a < length d.graph.arcs → (x : Bool) → is_near d v a ≡ x → history (relearnt d v b) a ≡ (if x then history b a else [])
  after_at a lt x near =
      get_or-map-range_with_len (λ c. if is_near d v c then history b c else []) 0 (length d.graph.arcs) a a [] lt (omega arith)
      ∙ ap (λ (x : Bool). if x then history b a else []) near

  -- each is the ledger's history, or empty where nothing was known
  each : (a : ℕ) → (history (relearnt d v b) a ≡ history b a) ⊎ ((history (relearnt d v b) a ≡ []) × (history n.known a ≡ []))
  each a = go (cases_lt a (length d.graph.arcs))
    where
      below : a < length d.graph.arcs → (x : Bool) → is_near d v a ≡ x
          → (history (relearnt d v b) a ≡ history b a) ⊎ ((history (relearnt d v b) a ≡ []) × (history n.known a ≡ []))
      below lt true near = inl (after_at a lt true near)
      below lt false near = inr (after_at a lt false near, h.far a lt near)

      go : (a < length d.graph.arcs) ⊎ (length d.graph.arcs ≤ a)
          → (history (relearnt d v b) a ≡ history b a) ⊎ ((history (relearnt d v b) a ≡ []) × (history n.known a ≡ []))
      go (inl lt) = below lt (is_near d v a) refl
      go (inr le) = inr (
        get_or-eq_default (relearnt d v b) [] (omega (arith, le, after_length)),
        get_or-eq_default n.known [] (omega (arith, le, h.one_each)),
      )

  knows_more : (a : ℕ) → Knows v (history n.known a) (history (relearnt d v b) a)
  knows_more a = go (each a)
    where
      go : (history (relearnt d v b) a ≡ history b a) ⊎ ((history (relearnt d v b) a ≡ []) × (history n.known a ≡ []))
          → Knows v (history n.known a) (history (relearnt d v b) a)
      go (inl whole) = subst (Knows v (history n.known a)) (sym whole) (h.knows a)
      go (inr none) =
          subst (λ k. Knows v k (history (relearnt d v b) a)) (sym none.1) (subst (Knows v []) (sym none.0) (knows_all v []))

  knows_book : (a : ℕ) → Knows v (history (relearnt d v b) a) (history b a)
  knows_book a = go (each a)
    where
      go : (history (relearnt d v b) a ≡ history b a) ⊎ ((history (relearnt d v b) a ≡ []) × (history n.known a ≡ []))
          → Knows v (history (relearnt d v b) a) (history b a)
      go (inl whole) = subst (λ k. Knows v k (history b a)) (sym whole) (knows_all v (history b a))
      go (inr none) = subst (λ k. Knows v k (history b a)) (none.1 ∙ sym none.0) (h.knows a)

  far_after : (a : ℕ) → a < length d.graph.arcs → is_near d v a ≡ false → history (relearnt d v b) a ≡ []
  far_after a lt far = after_at a lt false far

  after_legal : IsLegalBook d (relearnt d v b)
  after_legal = record {
    one_each = after_length;
    legal = λ a lt. at a lt (each a);
  }
    where
      at : (a : ℕ) → a < length (relearnt d v b)
          → (history (relearnt d v b) a ≡ history b a) ⊎ ((history (relearnt d v b) a ≡ []) × (history n.known a ≡ []))
          → IsLegal d a (history (relearnt d v b) a)
      at a lt (inl whole) = subst (IsLegal d a) (sym whole) (legal.legal a (omega (arith, lt, after_length, legal.one_each)))
      at a lt (inr none) =
          subst (IsLegal d a) (none.1 ∙ sym none.0) (h.sound.legal.legal a (omega (arith, lt, after_length, h.one_each)))

  -- the journal has what it had
  pub hold_restart : Holds d b (record { known = relearnt d v b; signed = n.signed }) v
  hold_restart = record {
    one_each = after_length;
    places = h.places;
    knows = knows_book;
    far = far_after;
    sound = restart_sound d v n.known (relearnt d v b) (signed_hashkey n.signed) after_legal knows_more h.sound.rules;
  }

  -- the journal has the hashkey of the act
  pub hold_recorded : (w : Wallet) (x : Action) → IsWallet d v w → IsAccepted d → IsElement x (due d v w (signed_hashkey n.signed) n.known)
      → Holds d b (record { known = relearnt d v b; signed = signed_through_call n.signed x.call }) v
  hold_recorded w x wallet fits i = record {
    one_each = after_length;
    places = signed_length n.signed x.call ∙ h.places;
    knows = knows_book;
    far = far_after;
    sound =
        subst (λ f. IsSound d (relearnt d v b) f v) (sym (signed_is n.signed x.call (low_lock d b n v w x h (due_now d b n v w x wallet fits i h))))
        (signing_sound d v n.known (relearnt d v b) (signed_hashkey n.signed) after_legal knows_more h.sound.rules w x wallet fits i);
  }
