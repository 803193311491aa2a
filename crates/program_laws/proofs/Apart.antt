-- The lines of each ledger are read by themselves.
use Rattle.std.proofs.Common.{◌≡◌, ◌==◌, ◌+◌, ◌-◌, ◌^◌, ◌<◌, ◌≤◌, ℕ, zero, suc, nat_le, nat_lt, Bool, true, false, cond, List, [], ◌∷◌, ◌++◌, length, decimal}
use Rattle.std.proofs.Common.{fold, replicate, set, get_or, Result, Ok, refl, sym, ap, ◌∙◌, arith, le-leb, lt-ltb, eqb-true}
use Rattle.std.specs.Prelude.{codes}
use Rattle.std.proofs.lemmas.List.{get_or-set_other, set-get_or}
use Rattle.swap_base.specs.Fault.{◌>>=◌}
use Rattle.swap_base.proofs.Lists.{and_both}
use Rattle.swap_digraph.specs.declared.deal.Deal.{Deal}
use Rattle.swap_digraph.specs.Deal.{touches}
use Rattle.transcript_book.specs.declared.said.Misspelling.{Misspelling}
use Rattle.transcript_book.specs.Between.{separated_parts}
use Rattle.transcript_book.specs.Reading.{misspelt, bounded_number, decimal_number}
use Rattle.transcript_book.proofs.Numbers.{below_back, high_number, number_back}
use Rattle.transcript_book.proofs.SeparatedParts.{high_too, parts_between}
use Rattle.transcript_book.proofs.Spelling.{field_back}
use Rattle.transcript_book.specs.Counts.{ledger_word}
use Rattle.transcript_book.proofs.Complete.{few_arcs}
use Rattle.told_ledgers.specs.declared.told_ledger.ToldLedger.{ToldLedger}
use Rattle.told_ledgers.specs.declared.heading.Heading.{Heading}
use Rattle.told_ledgers.specs.declared.one_ledger.Heard.{Heard}
use Rattle.told_ledgers.specs.declared.one_ledger.Heard.TheVariants.{More, Bad}
use Rattle.told_ledgers.specs.declared.stage.Stage.{Stage}
use Rattle.told_ledgers.specs.declared.stage.Stage.TheVariants.{Between, Reading, Passing}
use Rattle.told_ledgers.specs.SoFar.{LedgerSoFar}
use Rattle.told_ledgers.specs.Words.{line_kind}
use Rattle.told_ledgers.specs.Ledger.{line_heard, nothing_read, whole_told_ledger, untold}
use Rattle.told_ledgers.specs.Headings.{arc_said, heading_said, heading_words}
use Rattle.told_ledgers.specs.Chains.{is_chain_line}
use Rattle.told_ledgers.specs.Telling.{Telling, begun_at_heading, chain_told, frame_told, with_heard, ledgers_told, next_number}
use Rattle.told_ledgers.specs.Telling.{unless_bad_line, passing, reading_ledger, further_lines_told}
use Rattle.told_ledgers.proofs.Kept.{HeardSame, IsSame, heard_same}
use Rattle.program_laws.specs.Apart.{AreAscending, EachIsToldAlone, LedgerLines, all_heard, all_lines, heading_line, heard_ledger, ledger_alone, then_heard}
use Rattle.program_laws.specs.Apart.{with_ledger}

stepped : {A B : Type 0} (r : Result A Misspelling) (x : A) (f : A → Result B Misspelling) → r ≡ Ok x → (r >>= f) ≡ f x
stepped r x f e = ap (λ (q : Result _ Misspelling). q >>= f) e

-- the number of a line, given how many lines stand before it
abbrev after : ℕ → ℕ → ℕ
after n zero = n
after n (suc k) = after (next_number n) k

not_none : (n : ℕ) → (suc n == 0) ≡ false
not_none n = by (suc n == 0) refl
  where
    by : (t : Bool) → (suc n == 0) ≡ t → (suc n == 0) ≡ false
    by true q = absurd (let none : suc n ≡ 0 = eqb-true (suc n) 0 q in omega arith)
    by false q = q

module _ (d : Deal) (v : ℕ) where
  abbrev at_hand : List ToldLedger → (least count more : ℕ) → Stage → Telling
  at_hand ts least count more stage =
      record { deal = d; me = v; ledgers = ts; least = least; count = count; more = more; stage = stage }

  -- ---- the lines of a ledger

  -- which are passed over
  passed_over : (n : ℕ) (ts : List ToldLedger) (least count : ℕ) (stage : Stage) (ls rest : List (List ℕ))
      → further_lines_told n (passing (at_hand ts least count (length ls) stage)) (ls ++ rest)
      ≡ further_lines_told (after n (length ls)) (at_hand ts least count 0 Between) rest
  passed_over n ts least count stage [] rest = refl
  passed_over n ts least count stage (l ∷ ls) rest =
      let less : ◌≡◌ {A = ℕ} (suc (length ls) - 1) (length ls) = omega arith in
      ap (λ t. further_lines_told n (at_hand ts least count (suc (length ls)) (cond t Between Passing)) (l ∷ (ls ++ rest))) (not_none (length ls))
      ∙ ap (λ m. further_lines_told (next_number n) (passing (at_hand ts least count m Passing)) (ls ++ rest)) less
      ∙ passed_over (next_number n) ts least count Passing ls rest

  -- what is then told of all arcs
  abbrev heard_all : List ToldLedger → ℕ → Heard → List ToldLedger
  heard_all ts a h = set ts a (heard_ledger h)

  same_place : (ts : List ToldLedger) (a b : ℕ) (t : ToldLedger) → a ≡ b → set ts a t ≡ set ts b t
  same_place ts a b t e = ap (λ (c : ℕ). set ts c t) e

  -- which are read
  read_on : (n at : ℕ) (ts : List ToldLedger) (least count a : ℕ) (l : LedgerSoFar) (ls rest : List (List ℕ)) (h : Heard) → l.arc ≡ a → HeardSame l h
      → ((t : LedgerSoFar) → IsSame l t → further_lines_told (next_number n) (reading_ledger t (at_hand ts least count (length ls) (Reading l))) (ls ++ rest)
      ≡ further_lines_told (after (next_number n) (length ls)) (at_hand (heard_all ts a (all_heard (at + 1) t ls)) least count 0 Between) rest)
      → further_lines_told (next_number n) (with_heard l.arc h (at_hand ts least count (length ls) (Reading l))) (ls ++ rest)
      ≡ further_lines_told (after (next_number n) (length ls)) (at_hand (heard_all ts a (then_heard h (λ t. all_heard (at + 1) t ls))) least count 0 Between) rest
  read_on n at ts least count a l ls rest (More t) is same more = more t same
  read_on n at ts least count a l ls rest (Bad t) is same more =
      passed_over (next_number n) (set ts l.arc t) least count (Reading l) ls rest
      ∙ ap (λ (c : ℕ). further_lines_told (after (next_number n) (length ls)) (at_hand (set ts c t) least count 0 Between) rest) is

  read_over : (n at : ℕ) (ts : List ToldLedger) (least count a : ℕ) (stage : Stage) (l : LedgerSoFar) (ls rest : List (List ℕ)) → l.me ≡ v → l.arc ≡ a
      → at + length ls ≡ count
      → further_lines_told n (reading_ledger l (at_hand ts least count (length ls) stage)) (ls ++ rest)
      ≡ further_lines_told (after n (length ls)) (at_hand (heard_all ts a (all_heard at l ls)) least count 0 Between) rest
  read_over n at ts least count a stage l [] rest me is sum =
      ap (λ (c : ℕ). further_lines_told n (at_hand (set ts c (heard_ledger (More l))) least count 0 Between) rest) is
  read_over n at ts least count a stage l (x ∷ ls) rest me is sum =
      let here : ◌≡◌ {A = ℕ} (count - suc (length ls)) at = omega arith in
      let less : ◌≡◌ {A = ℕ} (suc (length ls) - 1) (length ls) = omega arith in
      let ws = separated_parts 32 x in
      ap (λ t. further_lines_told n (cond t (at_hand (set ts l.arc (whole_told_ledger l)) least count (suc (length ls)) Between)
      (at_hand ts least count (suc (length ls)) (Reading l))) (x ∷ (ls ++ rest))) (not_none (length ls))
      ∙ ap (λ (m : ℕ). further_lines_told (next_number n) (with_heard l.arc (line_heard (count - suc (length ls)) l (line_kind v ws) x)
      (at_hand ts least count m (Reading l))) (ls ++ rest)) less
      ∙ ap (λ (j : ℕ). further_lines_told (next_number n) (with_heard l.arc (line_heard j l (line_kind v ws) x) (at_hand ts least count (length ls) (Reading l)))
      (ls ++ rest)) here
      ∙ ap (λ (u : ℕ). further_lines_told (next_number n) (with_heard l.arc (line_heard at l (line_kind u ws) x) (at_hand ts least count (length ls) (Reading l)))
      (ls ++ rest)) (sym me)
      ∙ read_on n at ts least count a l ls rest (line_heard at l (line_kind l.me ws) x) is (heard_same at l (line_kind l.me ws) x) (λ t same.
      read_over (next_number n) (at + 1) ts least count a (Reading l) t ls rest (same.me ∙ me) (same.arc ∙ is) (omega arith))

  -- ---- the line before them

  arc_back : (least arcs a : ℕ) → least ≤ a → a < arcs → a < 2 ^ 64 → arc_said least arcs (decimal a) ≡ Ok a
  arc_back least arcs a low high small =
      stepped (decimal_number (decimal a)) a _ (number_back a small)
      ∙ ap (λ t. cond t (Ok a) misspelt) (and_both (nat_le least a) (nat_lt a arcs) (le-leb least a low) (lt-ltb a arcs high))

  heading_back : (least arcs a n : ℕ) → least ≤ a → a < arcs → arcs < 2 ^ 64 → n < 2 ^ 32
      → heading_words least arcs (codes "ledger" ∷ decimal a ∷ decimal n ∷ []) ≡ Ok (record { arc = a; count = n })
  unfolding heading_words
  heading_back least arcs a n low high small few =
      stepped _ (tt, decimal a ∷ decimal n ∷ []) _ (field_back ledger_word (codes "ledger") tt (decimal a ∷ decimal n ∷ []) refl)
      ∙ stepped _ (a, decimal n ∷ []) _ (field_back (arc_said least arcs) (decimal a) a (decimal n ∷ []) (arc_back least arcs a low high (omega arith)))
      ∙ stepped _ (n, []) _ (field_back (bounded_number (2 ^ 32)) (decimal n) n [] (below_back (2 ^ 32) n few (omega arith)))

  heading_parts : (b : LedgerLines) → b.arc < 2 ^ 64 → length b.lines < 2 ^ 32
      → separated_parts 32 (heading_line b) ≡ codes "ledger" ∷ decimal b.arc ∷ decimal (length b.lines) ∷ []
  heading_parts b small few =
      parts_between 32 33 (codes "ledger") (decimal b.arc ∷ decimal (length b.lines) ∷ []) (omega arith) refl (
        high_too 33 48 (decimal b.arc) (omega arith) (high_number b.arc (omega arith)),
        (high_too 33 48 (decimal (length b.lines)) (omega arith) (high_number (length b.lines) (omega arith)), tt),
      )

  heading_is : (least arcs : ℕ) (b : LedgerLines) → least ≤ b.arc → b.arc < arcs → arcs < 2 ^ 64 → length b.lines < 2 ^ 32
      → heading_said least arcs (heading_line b) ≡ Ok (record { arc = b.arc; count = length b.lines })
  unfolding heading_said
  heading_is least arcs b low high small few =
      ap (heading_words least arcs) (heading_parts b (omega arith) few) ∙ heading_back least arcs b.arc (length b.lines) low high small few

  -- ---- one ledger after another

  -- nothing is told of the arcs from least on
  abbrev AreUntold : List ToldLedger → ℕ → Type 0
  AreUntold ts least = (a : ℕ) → least ≤ a → get_or ts a untold ≡ untold

  untold_still : (ts : List ToldLedger) (least a : ℕ) (t : ToldLedger) → least ≤ a → AreUntold ts least → AreUntold (set ts a t) (a + 1)
  untold_still ts least a t low u c le = get_or-set_other ts a c t untold (λ e. absurd (omega arith)) ∙ u c (omega arith)

  begun_is : (n : ℕ) (ts : List ToldLedger) (least m c : ℕ) (b : LedgerLines) (rest : List (List ℕ)) → AreUntold ts least → least ≤ b.arc
      → further_lines_told n (begun_at_heading (record { arc = b.arc; count = length b.lines }) (at_hand ts least c m Between)) (b.lines ++ rest)
      ≡ further_lines_told (after n (length b.lines)) (at_hand (with_ledger d v ts b) (b.arc + 1) (length b.lines) 0 Between) rest
  begun_is n ts least m c b rest u low = by (touches d v b.arc)
    where
      by : (t : Bool)
          → further_lines_told n (cond t (reading_ledger (nothing_read d v b.arc) (at_hand ts (b.arc + 1) (length b.lines) (length b.lines) Between))
          (passing (at_hand ts (b.arc + 1) (length b.lines) (length b.lines) Between))) (b.lines ++ rest)
          ≡ further_lines_told (after n (length b.lines)) (at_hand (set ts b.arc (cond t (heard_ledger (all_heard 0 (nothing_read d v b.arc) b.lines)) untold))
          (b.arc + 1) (length b.lines) 0 Between) rest
      by true = read_over n 0 ts (b.arc + 1) (length b.lines) b.arc Between (nothing_read d v b.arc) b.lines rest refl refl (omega arith)
      by false =
          passed_over n ts (b.arc + 1) (length b.lines) Between b.lines rest
          ∙ ap (λ (us : List ToldLedger). further_lines_told (after n (length b.lines)) (at_hand us (b.arc + 1) (length b.lines) 0 Between) rest)
          (sym (ap (set ts b.arc) (sym (u b.arc low)) ∙ set-get_or ts b.arc untold))

  heading_read : (n : ℕ) (ts : List ToldLedger) (least c m : ℕ) (b : LedgerLines) (rest : List (List ℕ)) → least ≤ b.arc → b.arc < length d.graph.arcs
      → length d.graph.arcs < 2 ^ 64 → length b.lines < 2 ^ 32
      → further_lines_told n (at_hand ts least c m Between) (heading_line b ∷ rest)
      ≡ further_lines_told (next_number n) (begun_at_heading (record { arc = b.arc; count = length b.lines }) (at_hand ts least c m Between)) rest
  unfolding frame_told is_chain_line
  heading_read n ts least c m b rest low high small few =
      ap (λ (ws : List (List ℕ)). unless_bad_line n (cond (is_chain_line ws) (chain_told (at_hand ts least c m Between) (heading_line b))
      (heading_said least (length d.graph.arcs) (heading_line b) >>= λ h. Ok (begun_at_heading h (at_hand ts least c m Between)))) >>= λ t. further_lines_told (next_number n) t rest)
      (heading_parts b (omega arith) few)
      ∙ ap (λ (r : Result Heading Misspelling). unless_bad_line n (r >>= λ h. Ok (begun_at_heading h (at_hand ts least c m Between))) >>= λ t. further_lines_told (next_number n) t rest)
      (heading_is least (length d.graph.arcs) b low high small few)

  all_read : (n : ℕ) (ts : List ToldLedger) (least c m : ℕ) (bs : List LedgerLines) → AreUntold ts least → length d.graph.arcs < 2 ^ 64
      → AreAscending least (length d.graph.arcs) bs → further_lines_told n (at_hand ts least c m Between) (all_lines bs) ≡ Ok (fold (with_ledger d v) ts bs)
  unfolding frame_told
  all_read n ts least c m [] u small k = refl
  all_read n ts least c m (b ∷ bs) u small k =
      heading_read n ts least c m b (b.lines ++ all_lines bs) k.0 k.1 small k.2
      ∙ begun_is (next_number n) ts least m c b (all_lines bs) u k.0
      ∙ all_read (after (next_number n) (length b.lines)) (with_ledger d v ts b) (b.arc + 1) (length b.lines) 0 bs
      (untold_still ts least b.arc (ledger_alone d v b.arc b.lines) k.0 u) small k.3

pub none_told : (k a : ℕ) → get_or (replicate k untold) a untold ≡ untold
none_told zero a = refl
none_told (suc k) zero = refl
none_told (suc k) (suc a) = none_told k a

pub each_is_told_alone : EachIsToldAlone
unfolding ledgers_told
each_is_told_alone d v first bs sized k =
    all_read d v first (replicate (length d.graph.arcs) untold) 0 0 0 bs (λ a le. none_told (length d.graph.arcs) a) (few_arcs d sized) k
