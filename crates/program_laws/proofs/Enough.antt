-- What is told of each arc of a book.
use Rattle.std.proofs.Common.{◌≡◌, ◌≢◌, ◌⊎◌, ◌&&◌, ◌==◌, ◌+◌, ◌<◌, ◌≤◌, ◌^◌, ℕ, zero, suc, Bool, true, false, not, cond, List, [], ◌∷◌, length, map, fold}
use Rattle.std.proofs.Common.{◌||◌, set, get_or, replicate, Option, Some, None, is_some, refl, sym, ap, ◌∙◌, subst, inl, inr, arith, eqb-true, eq-eqb}
use Rattle.std.specs.Prelude.{All}
use Rattle.std.specs.List.{AllByRecursion, range_with_len}
use Rattle.std.proofs.lemmas.Bool.{false≢true}
use Rattle.std.proofs.lemmas.List.{get_or-set_same, get_or-set_other, get_or_past, length-replicate, length-set}
use Rattle.swap_base.specs.Lists.{IsElement, IsMoment}
use Rattle.swap_base.proofs.Lists.{and_both, at_moment, from_filter, in_filter, in_range, below_or}
use Rattle.swap_digraph.specs.declared.deal.Deal.{Deal}
use Rattle.swap_digraph.specs.declared.deal.Version.{Version}
use Rattle.swap_digraph.specs.declared.deal.Version.TheVariants.{One, Two}
use Rattle.swap_digraph.specs.Graph.{arcs, ends, entering, leaving, is_listed}
use Rattle.swap_digraph.specs.Deal.{counterparty, most_parties, touches, IsWellSized}
use Rattle.swap_digraph.proofs.Paths.{in-is_listed, is_listed-true}
use Rattle.ledger_core.specs.declared.entry.Call.{Call}
use Rattle.ledger_core.specs.declared.entry.Sender.{Sender}
use Rattle.ledger_core.specs.declared.entry.Sender.TheVariants.{Party, Clock}
use Rattle.ledger_core.specs.declared.entry.What.{What}
use Rattle.ledger_core.specs.declared.entry.What.TheVariants.{Call as Made, Tick}
use Rattle.ledger_core.specs.declared.entry.Entry.{Entry}
use Rattle.ledger_core.specs.History.{published, IsLegal}
use Rattle.ledger_core.specs.Book.{Histories, history, IsLegalBook}
use Rattle.ledger_core.specs.WellFormed.{IsFormed}
use Rattle.ledger_core.proofs.History.{not-true}
use Rattle.swap_rules.specs.Party.{is_arc_correct, pick_call}
use Rattle.swap_rules.specs.Conduct.{is_publish}
use Rattle.swap_rules.specs.Counted as counts
use Rattle.swap_rules.specs.Counted.{all_counted, counted}
use Rattle.swap_rules.proofs.Counted.{counted_is, counted_reads}
use Rattle.swap_rules.specs.Due.{has_called}
use Rattle.swap_rules.specs.Rest.{is_ticking}
use Rattle.swap_rules.proofs.Words.{enters, leaves}
use Rattle.wallet_promise.specs.WithoutNoise.{is_told, is_useless, merged, telling, AreUseless, IsTrueClock, IsTrueEntry, SaysTheSame}
use Rattle.wallet_promise.proofs.LegalCounted.{told_is_legal}
use Rattle.wallet_promise.proofs.Needed.{silent_in, useless}
use Rattle.transcript_book.specs.Lines.{IsStatable}
use Rattle.transcript_book.specs.Stated.{IsTyped}
use Rattle.transcript_book.proofs.Legal.{legal_is_stated}
use Rattle.told_ledgers.specs.declared.told_ledger.ToldLedger.{ToldLedger}
use Rattle.told_ledgers.specs.Ledger.{nothing_read, untold}
use Rattle.told_ledgers.specs.Telling.{told_book}
use Rattle.told_ledgers.proofs.Ledgers.{told_history}
use Rattle.program_laws.specs.Apart.{AreAscending, LedgerLines, all_heard, heard_ledger, ledger_alone, with_ledger}
use Rattle.program_laws.specs.Enough.{IsTellable, IsToldBook, IsToldEnough, LinesSayEnough, SayEntries, all_funded, funded, is_for_want_of_funds, is_unfunded}
use Rattle.program_laws.proofs.Apart.{each_is_told_alone}
use Rattle.program_laws.proofs.Funded.{funded_before, funded_is, funded_is_legal}
use Rattle.program_laws.proofs.Useless.{useless_told}
use Rattle.program_laws.proofs.Merging.{all_stay, says_counted, stands_is}
use Rattle.program_laws.proofs.Needed.{IsNeededHere, all_told, nothing_heard, part}

-- ---- what holds of each of a list

pub each_in : {A : Type 0} (P : A → Type 0) (xs : List A) → AllByRecursion P xs → (x : A) → IsElement x xs → P x
each_in P [] h x i = absurd i
each_in P (y ∷ xs) h x (inl e) = subst P (sym e) h.0
each_in P (y ∷ xs) h x (inr i) = each_in P xs h.1 x i

all_from_in : {A : Type 0} (P : A → Type 0) (xs : List A) → ((x : A) → IsElement x xs → P x) → All P xs
all_from_in P [] h i d lt = absurd (omega arith)
all_from_in P (x ∷ xs) h zero d lt = h x (inl refl)
all_from_in P (x ∷ xs) h (suc i) d lt = all_from_in P xs (λ y j. h y (inr j)) i d (omega arith)

-- ---- one ledger

pub small_party : (d : Deal) (v : ℕ) → IsWellSized d → v < d.graph.n → v < 256
small_party d v k lt = by d.version k.parties.1
  where
    by : (x : Version) → d.graph.n ≤ most_parties x → v < 256
    by One le = omega arith
    by Two le = omega arith

nothing_in : (n c : ℕ) → history (replicate n []) c ≡ []
nothing_in zero c = refl
nothing_in (suc n) zero = refl
nothing_in (suc n) (suc c) = nothing_in n c

-- the histories of a book that has entries on one arc alone
abbrev alone : Deal → ℕ → List Entry → Histories
alone d a h = set (replicate (length d.graph.arcs) []) a h

alone_long : (d : Deal) (a : ℕ) (h : List Entry) → length (alone d a h) ≡ length d.graph.arcs
alone_long d a h = length-set (replicate (length d.graph.arcs) []) a h ∙ length-replicate (length d.graph.arcs) []

alone_is : (d : Deal) (a : ℕ) (h : List Entry) → a < length d.graph.arcs → history (alone d a h) a ≡ h
alone_is d a h lt =
    let long : length (replicate (length d.graph.arcs) (nothing_of h)) ≡ length d.graph.arcs = length-replicate (length d.graph.arcs) (nothing_of h) in
    get_or-set_same (replicate (length d.graph.arcs) []) a h [] (omega arith)
  where
    nothing_of : List Entry → List Entry
    nothing_of x = []

alone_others : (d : Deal) (a c : ℕ) (h : List Entry) → c ≢ a → history (alone d a h) c ≡ []
alone_others d a c h other = get_or-set_other (replicate (length d.graph.arcs) []) a c h [] other ∙ nothing_in (length d.graph.arcs) c

-- What counts of what is told of a ledger says enough, and it has no bad entry where the arc isn't
-- useless.
pub record IsToldHere (d : Deal) (v a : ℕ) (h : List Entry) (t : ToldLedger) : Type 0 where
  pub enough : SaysTheSame v (counted v t.history) (counted v (funded v h)) ⊎ AreUseless d v a (counted v t.history) (counted v (funded v h))
  pub clean : is_useless d v a h ≡ false → t.bad ≡ None

-- what counts of a useless arc is useless
fewer_calls : (v : ℕ) (k : List Entry) (test : Option Call → Bool) → has_called v test k ≡ false → has_called v test (counted v k) ≡ false
fewer_calls v k test none = by (has_called v test (counted v k)) refl
  where
    by : (b : Bool) → has_called v test (counted v k) ≡ b → has_called v test (counted v k) ≡ false
    by false e = e
    by true e = absurd (false≢true (sym none ∙ (counted_reads v k).calls test e))

some_call_none : (v : ℕ) (test : Option Call → Bool) → test None ≡ false → (k : List Entry) → has_called v is_some k ≡ false → has_called v test k ≡ false
some_call_none v test n [] e = refl
some_call_none v test n (x ∷ k) e = by (pick_call v x) refl (λ q. some_call_none v test n k q)
  where
    by : (o : Option Call) → pick_call v x ≡ o → (has_called v is_some k ≡ false → has_called v test k ≡ false) → has_called v test (x ∷ k) ≡ false
    by None q more = ap (λ (o : Option Call). test o || has_called v test k) q ∙ ap (λ b. b || has_called v test k) n
        ∙ more (sym (ap (λ (o : Option Call). is_some o || has_called v is_some k) q) ∙ e)
    by (Some c) q more = absurd (false≢true (sym e ∙ ap (λ (o : Option Call). is_some o || has_called v is_some k) q))

still_useless : (d : Deal) (v a : ℕ) (k h : List Entry) → has_called v is_some h ≡ false → AreUseless d v a k h → AreUseless d v a (counted v k) (counted v h)
still_useless d v a k h silent u = record {
  enters = u.enters;
  one = ap (is_arc_correct d a) (counted_reads v k).published ∙ u.one;
  other = ap (is_arc_correct d a) (counted_reads v h).published ∙ u.other;
  calls = λ test n. let none = some_call_none v test n h silent in
      fewer_calls v k test (u.calls test n ∙ none) ∙ sym (fewer_calls v h test none);
}

-- a party without calls lacked no funds
pub all_paid : (v : ℕ) (h : List Entry) → ((e : Entry) → IsElement e h → is_unfunded v e ≡ false) → funded v h ≡ h
all_paid v h paid = all_stay (λ e. not (is_unfunded v e)) h (λ e i. ap not (paid e i))

silent_paid : (v : ℕ) (h : List Entry) → has_called v is_some h ≡ false → funded v h ≡ h
silent_paid v h silent =
    all_paid v h (λ e i. ap (λ (o : Option Call). is_publish o && is_for_want_of_funds e.reply) (silent_in v h silent e i))

module _ (d : Deal) (v a : ℕ) (sized : IsWellSized d) (party_of : v < d.graph.n) (h : List Entry) (ls : List (List ℕ)) (lt : a < length d.graph.arcs)
    (k : IsTellable d v a h) where
  typed_here : (e : Entry) → IsElement e h → IsTyped e
  typed_here = each_in IsTyped h k.typed

  ticks_by : (past : List Entry) (e : Entry) (s : Sender) (w : What) → e.sender ≡ s → e.what ≡ w → is_ticking w ≡ true
      → IsTrueEntry d a past s w e.height e.reply → s ≡ Clock
  ticks_by past e (Party p) (Made c) es ew t l = absurd (cc t)
  ticks_by past e (Party p) (Tick n) es ew t l = absurd l
  ticks_by past e Clock w es ew t l = refl

  clock_here : (past : List Entry) (e : Entry) → IsMoment h past e → is_ticking e.what ≡ true → e.sender ≡ Clock
  clock_here past e m t = ticks_by past e e.sender e.what refl refl t (at_moment (IsTrueClock d a) h past e k.chain.clock m t)

  -- a useless one
  when_useless : is_useless d v a h ≡ true → SayEntries true d v a h ls
      → AreUseless d v a (counted v (heard_ledger (all_heard 0 (nothing_read d v a) ls)).history) (counted v (funded v h))
  when_useless e s =
      let x = useless d v a h e in
      subst (λ z. AreUseless d v a (counted v (heard_ledger (all_heard 0 (nothing_read d v a) ls)).history) (counted v z)) (sym (silent_paid v h x.silent))
      (still_useless d v a _ h x.silent (useless_told d v a (small_party d v sized party_of) h ls (record {
        mine = eq-eqb v (counterparty d a) (sym (enters d v a x.enters).1);
        wrong = x.wrong;
        silent = silent_in v h x.silent;
        clock = clock_here;
        typed = typed_here;
      }) x.apart s))

  -- another: there a publish of the correct terms was accepted, if it enters v
  not_leaving : counterparty d a ≡ v → IsElement a (leaving d.graph v) → ⊥
  not_leaving e i = sized.ends.apart a lt ((leaves d v a i).1 ∙ sym e)

  is_entering : counterparty d a ≡ v → IsElement a (entering d.graph v)
  is_entering e =
      in_filter (λ x. (ends d.graph x).to == v) a (arcs d.graph) (in_range a (length d.graph.arcs) lt) (eq-eqb (counterparty d a) v e)

  would_be_useless : counterparty d a ≡ v → is_arc_correct d a (published h) ≡ false → is_useless d v a h ≡ true
  would_be_useless e wrong =
      let apart = not_leaving e in
      and_both (is_listed a (entering d.graph v) && not (is_listed a (leaving d.graph v)) && not (is_arc_correct d a (published h)))
      (not (has_called v is_some h))
      (and_both (is_listed a (entering d.graph v) && not (is_listed a (leaving d.graph v))) (not (is_arc_correct d a (published h)))
      (and_both (is_listed a (entering d.graph v)) (not (is_listed a (leaving d.graph v))) (in-is_listed a (entering d.graph v) (is_entering e))
      (ap not (not-true (is_listed a (leaving d.graph v)) (λ t. apart (is_listed-true a (leaving d.graph v) t)))))
      (ap not wrong))
      (ap not (k.silent apart wrong))

  correct_here : is_useless d v a h ≡ false → (v == counterparty d a) ≡ true → is_arc_correct d a (published h) ≡ true
  correct_here e mine = by (is_arc_correct d a (published h)) refl
    where
      by : (t : Bool) → is_arc_correct d a (published h) ≡ t → is_arc_correct d a (published h) ≡ true
      by true q = q
      by false q = absurd (false≢true (sym e ∙ would_be_useless (sym (eqb-true v (counterparty d a) mine)) q))

  legal_by : (c : ℕ) (t : Bool) → (c == a) ≡ t → IsLegal d a (part v h) → IsLegal d c (history (alone d a (part v h)) c)
  legal_by c true q l =
      subst (λ z. IsLegal d z (history (alone d a (part v h)) z)) (sym (eqb-true c a q)) (subst (IsLegal d a) (sym (alone_is d a (part v h) lt)) l)
  legal_by c false q l = subst (IsLegal d c) (sym (alone_others d a c (part v h) (λ z. false≢true (sym q ∙ eq-eqb c a z)))) tt

  typed_by : (c : ℕ) (t : Bool) → (c == a) ≡ t → All IsTyped (history (alone d a (part v h)) c)
  typed_by c true q =
      subst (λ z. All IsTyped (history (alone d a (part v h)) z)) (sym (eqb-true c a q))
      (subst (All IsTyped) (sym (alone_is d a (part v h) lt))
      (all_from_in IsTyped (part v h) (λ x i. typed_here x
      (from_filter (is_told v) x h (from_filter (λ y. not (counts.is_passed v y)) x (telling v h)
      (from_filter (λ y. not (is_unfunded v y)) x (counted v (telling v h)) i).0).0).0)))
  typed_by c false q =
      subst (All IsTyped) (sym (alone_others d a c (part v h) (λ z. false≢true (sym q ∙ eq-eqb c a z)))) (all_from_in IsTyped [] (λ x i. absurd i))

  needed_here : is_useless d v a h ≡ false → IsNeededHere d v a h
  needed_here e =
      let l = funded_is_legal d v a (counted v (telling v h)) (told_is_legal d v a h sized.leaders.1 (k.chain.contract e) k.within) in
      let b = alone d a (part v h) in
      let is = alone_is d a (part v h) lt in
      let long = alone_long d a (part v h) in
      let book : IsLegalBook d b = record { one_each = long; legal = λ c below. legal_by c (c == a) refl l } in
      let stated = legal_is_stated d b book (λ c below. typed_by c (c == a) refl) in record {
        legal = l;
        formed = subst (IsFormed d a) is (stated.formed.formed a (omega arith));
        statable = subst (All IsStatable) is (stated.statable a (omega arith));
        correct = correct_here e;
      }

  heard_here : (t : Bool) → is_useless d v a h ≡ t → SayEntries t d v a h ls → IsToldHere d v a h (heard_ledger (all_heard 0 (nothing_read d v a) ls))
  heard_here true e s = record {
    enough = inr (when_useless e s);
    clean = λ n. absurd (false≢true (sym n ∙ e));
  }
  heard_here false e s =
      let u = needed_here e in
      let small = small_party d v sized party_of in
      let x = all_told d v a small h u typed_here 0 [] h _ (nothing_heard d v a small h u) ls refl s in
      let told : (heard_ledger (all_heard 0 (nothing_read d v a) ls)).history ≡ merged (part v h) =
      ap (λ z. (heard_ledger z).history) x.is ∙ stands_is x.taken x.waiting (merged (part v h)) x.stands in record {
        enough = inl (subst (λ z. SaysTheSame v (counted v z) (counted v (funded v h))) (sym (told ∙ ap merged (funded_before v h))) (says_counted v (funded v h)));
        clean = λ n. ap (λ z. (heard_ledger z).bad) x.is;
      }

-- ---- all ledgers

abbrev with_lines : (ℕ → List (List ℕ)) → ℕ → LedgerLines
with_lines lines a = record { arc = a; lines = lines a }

module _ (d : Deal) (v : ℕ) (lines : ℕ → List (List ℕ)) where
  abbrev all_with : List ToldLedger → (least n : ℕ) → List ToldLedger
  all_with ts least n = fold (with_ledger d v) ts (map (with_lines lines) (range_with_len least n))

  kept_below : (least n a : ℕ) (ts : List ToldLedger) → a < least → get_or (all_with ts least n) a untold ≡ get_or ts a untold
  kept_below least zero a ts lt = refl
  kept_below least (suc n) a ts lt =
      kept_below (least + 1) n a (with_ledger d v ts (with_lines lines least)) (omega arith)
      ∙ get_or-set_other ts least a (ledger_alone d v least (lines least)) untold (λ e. absurd (omega arith))

  told_by : (least n a : ℕ) (ts : List ToldLedger) (t : Bool) → (a == least) ≡ t → least ≤ a → a < length ts
      → (least + 1 ≤ a → get_or (all_with (with_ledger d v ts (with_lines lines least)) (least + 1) n) a untold ≡ ledger_alone d v a (lines a))
      → get_or (all_with (with_ledger d v ts (with_lines lines least)) (least + 1) n) a untold ≡ ledger_alone d v a (lines a)
  told_by least n a ts true q le long rest =
      let same : a ≡ least = eqb-true a least q in
      kept_below (least + 1) n a (with_ledger d v ts (with_lines lines least)) (omega arith)
      ∙ subst (λ z. get_or (with_ledger d v ts (with_lines lines least)) z untold ≡ ledger_alone d v z (lines z)) (sym same)
      (get_or-set_same ts least (ledger_alone d v least (lines least)) untold (omega arith))
  told_by least n a ts false q le long rest = rest (let other : a ≢ least = λ e. absurd (false≢true (sym q ∙ eq-eqb a least e)) in above other)
    where
      above : a ≢ least → least + 1 ≤ a
      above other = elim (below_or least a) [ inl lt ↦ omega arith | inr ge ↦ absurd (other (omega arith)) ]

  told_there : (least n a : ℕ) (ts : List ToldLedger) → least ≤ a → a < least + n → a < length ts
      → get_or (all_with ts least n) a untold ≡ ledger_alone d v a (lines a)
  told_there least zero a ts le lt long = absurd (omega arith)
  told_there least (suc n) a ts le lt long =
      told_by least n a ts (a == least) refl le long (λ more. told_there (least + 1) n a (with_ledger d v ts (with_lines lines least)) more (omega arith)
      (subst (λ z. a < z) (sym (length-set ts least (ledger_alone d v least (lines least)))) long))

  long_with : (least n : ℕ) (ts : List ToldLedger) → length (all_with ts least n) ≡ length ts
  long_with least zero ts = refl
  long_with least (suc n) ts =
      long_with (least + 1) n (with_ledger d v ts (with_lines lines least)) ∙ length-set ts least (ledger_alone d v least (lines least))

  ascending : (least n top : ℕ) → least + n ≤ top → ((a : ℕ) → length (lines a) < 2 ^ 32)
      → AreAscending least top (map (with_lines lines) (range_with_len least n))
  ascending least zero top le few = tt
  ascending least (suc n) top le few = (omega arith, omega arith, few least, ascending (least + 1) n top (omega arith) few)

module _ (d : Deal) (v : ℕ) (k : Histories) (lines : ℕ → List (List ℕ)) (sized : IsWellSized d) (party_of : v < d.graph.n) (b : IsToldBook d v k lines) where
  abbrev told : List ToldLedger
  told = all_with d v lines (replicate (length d.graph.arcs) untold) 0 (length d.graph.arcs)

  nothing_said : SaysTheSame v [] []
  nothing_said = record {
    height = refl;
    published = refl;
    opened = λ i. refl;
    settled = refl;
    calls = λ test n. refl;
  }

  far_here : (a : ℕ) → touches d v a ≡ false → IsToldHere d v a (history k a) untold
  far_here a e = record {
    enough = inl (subst (λ h. SaysTheSame v [] (counted v (funded v h))) (sym (b.far a e)) nothing_said);
    clean = λ n. refl;
  }

  alone_here : (a : ℕ) → a < length d.graph.arcs → IsToldHere d v a (history k a) (ledger_alone d v a (lines a))
  alone_here a lt = by (touches d v a) refl
    where
      below : a < length k
      below = let count = b.one_each in omega arith

      by : (t : Bool) → touches d v a ≡ t
          → IsToldHere d v a (history k a) (cond t (heard_ledger (all_heard 0 (nothing_read d v a) (lines a))) untold)
      by true e = heard_here d v a sized party_of (history k a) (lines a) lt (b.tellable a below) (is_useless d v a (history k a)) refl (b.says a below)
      by false e = far_here a e

  empty_here : (a : ℕ) → length d.graph.arcs ≤ a → IsToldHere d v a (history k a) untold
  empty_here a le =
      let none : history k a ≡ [] = get_or_past k a [] (let count = b.one_each in omega arith) in record {
        enough = inl (subst (λ h. SaysTheSame v [] (counted v (funded v h))) (sym none) nothing_said);
        clean = λ n. refl;
      }

  told_long : length told ≡ length d.graph.arcs
  told_long = long_with d v lines 0 (length d.graph.arcs) (replicate (length d.graph.arcs) untold) ∙ length-replicate (length d.graph.arcs) untold

  here : (a : ℕ) → IsToldHere d v a (history k a) (get_or told a untold)
  here a = elim (below_or a (length d.graph.arcs)) [
    | inl lt ↦
        subst (IsToldHere d v a (history k a))
        (sym (told_there d v lines 0 (length d.graph.arcs) a (replicate (length d.graph.arcs) untold) (omega arith) (omega arith)
        (subst (λ z. a < z) (sym (length-replicate (length d.graph.arcs) untold)) lt))) (alone_here a lt)
    | inr ge ↦ subst (IsToldHere d v a (history k a)) (sym (get_or_past told a untold (let long = told_long in omega arith))) (empty_here a ge)
  ]

  kept_is : (a : ℕ) → history (all_counted v (all_funded v k)) a ≡ counted v (funded v (history k a))
  kept_is a = counted_is v (all_funded v k) a ∙ ap (counted v) (funded_is v k a)

  said : (a : ℕ) → SaysTheSame v (history (all_counted v (told_book told)) a) (history (all_counted v (all_funded v k)) a)
      ⊎ AreUseless d v a (history (all_counted v (told_book told)) a) (history (all_counted v (all_funded v k)) a)
  said a =
      subst (λ h. SaysTheSame v h (history (all_counted v (all_funded v k)) a) ⊎ AreUseless d v a h (history (all_counted v (all_funded v k)) a))
      (ap (counted v) (sym (told_history told a)) ∙ sym (counted_is v (told_book told) a))
      (subst (λ h. SaysTheSame v (counted v (get_or told a untold).history) h ⊎ AreUseless d v a (counted v (get_or told a untold).history) h)
      (sym (kept_is a)) (here a).enough)

  book_says_enough : IsToldEnough d v k told
  book_says_enough = record { enough = said; clean = λ a. (here a).clean }

pub lines_say_enough : LinesSayEnough
lines_say_enough d v first k lines sized party_of b = (
  told d v k lines sized party_of b,
  each_is_told_alone d v first _ sized (ascending d v lines 0 (length d.graph.arcs) (length d.graph.arcs) (omega arith) b.few),
  book_says_enough d v k lines sized party_of b,
)
