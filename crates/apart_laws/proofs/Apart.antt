-- Swaps that share no hashlock stay apart.
use Rattle.std.proofs.Common.{◌≡◌, ◌==◌, ◌&&◌, ℕ, ◌<◌, Bool, true, false, not, nat_lt, nat_le, List, length, Option, Some, refl, sym, ap, ◌∙◌, subst, ltb-true}
use Rattle.std.specs.List.{list_any, flat_map}
use Rattle.std.specs.Prelude.{is_some}
use Rattle.std.specs.Str.{bytes_eq}
use Rattle.swap_base.specs.Lists.{IsElement, IsMoment}
use Rattle.swap_base.proofs.Lists.{any_at, moment_from_in, from_whole, in_from_moment}
use Rattle.swap_digraph.specs.declared.deal.Deal.{Deal}
use Rattle.swap_digraph.specs.Deal.{lock_hashlock, path_limit}
use Rattle.hash_signature.specs.Signature.{hashed_value}
use Rattle.hashkey_path.specs.declared.hashkey.Hashkey.{Hashkey}
use Rattle.hashkey_path.specs.Hashkey.{is_valid, is_wrong_path, is_wrong_secret, is_wrong_signature, same_key}
use Rattle.escrow_core.specs.Terms.{stated_terms, terms_hashlock}
use Rattle.escrow_core.specs.declared.terms.Terms.{Terms}
use Rattle.ledger_core.specs.declared.entry.Call.{Call}
use Rattle.ledger_core.specs.declared.entry.Call.TheVariants.{Unlock}
use Rattle.ledger_core.specs.declared.entry.Entry.{Entry}
use Rattle.ledger_core.specs.History.{accepted, fit, published}
use Rattle.ledger_core.specs.Book.{Histories, history, IsLegalBook}
use Rattle.ledger_core.proofs.History.{clear_at, of_unlock, not-false}
use Rattle.swap_rules.specs.Party.{first_key, is_correct, is_ready, pick_call, unlock_hashkey}
use Rattle.swap_rules.specs.Conduct.{carries, has_origin, is_first_key, keeps, IsConducted}
use Rattle.swap_rules.proofs.Calls.{correct, correct_past, kept}
use Rattle.swap_rules.proofs.Conducting.{below_of}
use Rattle.swap_rules.proofs.Words.{act_of, and_five, bytes_eq-true, same_key-true}
use Rattle.swap_many.specs.Chains.{book}
use Rattle.swap_many.specs.Many.{many_finish, many_run}
use Rattle.swap_many.proofs.Finish.{many_finishes_end}
use Rattle.swap_many.proofs.Follow.{books_are_kept}
use Rattle.apart_laws.specs.Apart.{BooksStayApart, IsNoUse, ShareNoHashlock, SwapsStayApart}

both : (a b : Bool) → (a && b) ≡ true → (a ≡ true) × (b ≡ true)
both true true h = (refl, refl)
both true false h = absurd (cc h)
both false b h = absurd (cc h)

not_not : (b : Bool) → not (not b) ≡ true → b ≡ true
not_not true h = refl
not_not false h = absurd (cc h)

not_any : {A : Type 0} (p : A → Bool) (xs : List A) → ¬ (list_any p xs ≡ true) → list_any p xs ≡ false
not_any p xs never = go (list_any p xs) refl
  where
    go : (b : Bool) → list_any p xs ≡ b → list_any p xs ≡ false
    go true e = absurd (never e)
    go false e = e

-- A secret of a lock of the deal, with the lock's number.
record IsSecret (d : Deal) (secret : List ℕ) (i : ℕ) : Type 0 where
  below : i < length d.leaders
  opens : hashed_value secret ≡ lock_hashlock d i

lock_below : (d : Deal) (a : ℕ) (key : Hashkey) → fit d a (Unlock key) ≡ true → key.lock < length d.leaders
lock_below d a key fits =
    let one = both (nat_lt key.lock (length d.leaders) && nat_le (length key.path) (path_limit d) && nat_le (length key.sigs) (path_limit d)) _ fits in
    let two = both (nat_lt key.lock (length d.leaders) && nat_le (length key.path) (path_limit d)) _ one.0 in
    ltb-true key.lock (length d.leaders) (both (nat_lt key.lock (length d.leaders)) _ two.0).0

-- what an unlock call of a conducted party carries
presented : (d : Deal) (b : Histories) (v a : ℕ) (past : List Entry) (x : Entry) (key : Hashkey) → IsLegalBook d b → IsConducted d b v
    → IsMoment (history b a) past x → pick_call v x ≡ Some (Unlock key) → IsSecret d key.secret key.lock
unfolding keeps
presented d b v a past x key legal conducted m k =
    let act = (act_of d a (history b a) past x (Unlock key) v (legal.legal a (below_of b a past x m)) m k).0 in
    let r = kept d b v conducted a past x (Unlock key) m k in
    let five =
    and_five (is_some (published past)) (is_ready d b v) (is_first_key (first_key b v key.lock) key) (is_valid d a (lock_hashlock d key.lock) key)
    (has_origin d.mode d b v key) r in
    let right = both (not (is_wrong_secret (lock_hashlock d key.lock) key) && not (is_wrong_path d a d.mode key)) (not (is_wrong_signature d d.mode key)) five.3 in
    let secret = both (not (is_wrong_secret (lock_hashlock d key.lock) key)) (not (is_wrong_path d a d.mode key)) right.0 in
    record {
      below = lock_below d a key act.fits;
      opens = bytes_eq-true (hashed_value key.secret) (lock_hashlock d key.lock) (not_not (bytes_eq (hashed_value key.secret) (lock_hashlock d key.lock)) secret.0);
    }

-- what opened a lock on a correct arc
opened_by : (e : Deal) (c : Histories) (a : ℕ) (past : List Entry) (x : Entry) (key : Hashkey) → IsLegalBook e c → IsMoment (history c a) past x
    → accepted x ≡ Some (Unlock key) → is_correct e c a ≡ true → IsSecret e key.secret key.lock
opened_by e c a past x key legal m took right =
    let w = clear_at e a (history c a) past x (Unlock key) (legal.legal a (below_of c a past x m)) m took in
    let u = of_unlock e a past w.0.by key w.1 in
    let terms : u.contract.terms ≡ stated_terms e a = correct_past e c a past x u.contract (correct e c a right) m u.published in
    let secret : is_wrong_secret (lock_hashlock e key.lock) key ≡ false = subst (λ (t : Terms). is_wrong_secret (terms_hashlock t key.lock) key ≡ false) terms u.secret in
    record {
      below = lock_below e a key w.0.fits;
      opens = bytes_eq-true (hashed_value key.secret) (lock_hashlock e key.lock) (not-false (bytes_eq (hashed_value key.secret) (lock_hashlock e key.lock)) secret);
    }

module _ (d e : Deal) (b c : Histories) (v : ℕ) (none : ShareNoHashlock d e) (legal : IsLegalBook d b) (other : IsLegalBook e c)
    (conducted : IsConducted d b v) where
  -- an unlock call of v has no secret of the other deal
  no_secret : (x : Entry) (key : Hashkey) (secret : List ℕ) (j : ℕ) → IsElement x (flat_map (λ h. h) b) → pick_call v x ≡ Some (Unlock key)
      → key.secret ≡ secret → IsSecret e secret j → ⊥
  no_secret x key secret j i k same is =
      let w = from_whole b x i in
      let m = moment_from_in (history b w.0) x w.2 in
      let p = presented d b v w.0 m.0 x key legal conducted m.1 k in
      none key.lock j p.below is.below (sym p.opens ∙ (ap hashed_value same ∙ is.opens))

  carried : (secret : List ℕ) (o : Option Call) → carries secret o ≡ true → (key : Hashkey) × (o ≡ Some (Unlock key)) × (key.secret ≡ secret)
  carried secret (Some (Unlock key)) h = (key, refl, bytes_eq-true key.secret secret h)
  carried secret _ h = absurd (cc h)

  made : (key : Hashkey) (o : Option Call) → is_first_key (unlock_hashkey key.lock o) key ≡ true
      → (first : Hashkey) × (o ≡ Some (Unlock first)) × (first ≡ key)
  made key (Some (Unlock first)) h = go (first.lock == key.lock) refl
    where
      go : (t : Bool) → (first.lock == key.lock) ≡ t → (one : Hashkey) × (◌≡◌ {A = Option Call} (Some (Unlock first)) (Some (Unlock one))) × (one ≡ key)
      go true e = let same : same_key first key ≡ true = rw e at h in (first, refl, same_key-true first key same)
      go false e = let bad : false ≡ true = rw e at h in absurd (cc bad)
  made key _ h = absurd (cc h)

  is_no_use : IsNoUse b v e c
  is_no_use = record {
    secrets = λ a past x key m k j below same.
        let p = presented d b v a past x key legal conducted m k in none key.lock j p.below below (sym p.opens ∙ same);
    uncarried = λ a past x key m took right.
        not_any (λ y. carries key.secret (pick_call v y)) (flat_map (λ h. h) b) (λ some.
        let f = any_at (λ y. carries key.secret (pick_call v y)) (flat_map (λ h. h) b) some in
        let k = carried key.secret (pick_call v f.now) f.passes in
        no_secret f.now k.0 key.secret key.lock (subst (IsElement f.now) (sym f.stands.1) (in_from_moment f.past f.now f.stands.0)) k.1 k.2
        (opened_by e c a past x key other m took right));
    unmade = λ a past x key part m took right same.
        not_any (λ y. is_first_key (unlock_hashkey part.lock (pick_call v y)) part) (flat_map (λ h. h) b) (λ some.
        let f = any_at (λ y. is_first_key (unlock_hashkey part.lock (pick_call v y)) part) (flat_map (λ h. h) b) some in
        let k = made part (pick_call v f.now) f.passes in
        no_secret f.now k.0 key.secret key.lock (subst (IsElement f.now) (sym f.stands.1) (in_from_moment f.past f.now f.stands.0)) k.1
        (ap (λ (z : Hashkey). z.secret) k.2 ∙ same) (opened_by e c a past x key other m took right));
  }

pub books_stay_apart : BooksStayApart
books_stay_apart d e b c v none legal other conducted = is_no_use d e b c v none legal other conducted

pub swaps_stay_apart : SwapsStayApart
swaps_stay_apart m events s t v ready all ls lt lv cv none =
    let one = books_are_kept m events s ready all ls in
    let two = books_are_kept m events t ready all lt in
    let f = many_finishes_end m events ready all in
    record {
      run = is_no_use (m.cast s).deal (m.cast t).deal (book m (many_run m events).chains s) (book m (many_run m events).chains t) v none one.legal two.legal
          (one.conducted v lv cv);
      finished = is_no_use (m.cast s).deal (m.cast t).deal (book m (many_finish m (many_run m events)).chains s)
          (book m (many_finish m (many_run m events)).chains t) v none (f.kept s ls).legal (f.kept t lt).legal ((f.kept s ls).conducted v lv cv);
    }
