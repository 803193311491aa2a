-- What is told line by line, and of each arc.
use Rattle.std.proofs.Common.{◌≡◌, ◌≢◌, ◌+◌, ◌<◌, ◌≤◌, ◌==◌, ℕ, zero, suc, Bool, true, false, List, [], ◌∷◌, ◌-◌, cond, length, set, get_or}
use Rattle.std.proofs.Common.{Result, Ok, Err, refl, sym, ap, ◌∙◌, subst, arith, eqb-true, eq-eqb}
use Rattle.std.proofs.lemmas.List.{get_or-set_same, get_or-set_other, length-set, length-map}
use Rattle.std.proofs.Math.ListN.{get_or-map as get_or-map_at}
use Rattle.std.specs.Prelude.{IfOk, codes, slice_set}
use Rattle.std.specs.Str.{bytes_eq}
use Rattle.swap_base.specs.Fault.{◌>>=◌, Fails, Gives}
use Rattle.swap_base.specs.declared.fault.Fault.{Fault}
use Rattle.swap_base.specs.declared.fault.Fault.TheVariants.{Refused, NoMemory}
use Rattle.swap_digraph.specs.declared.deal.Deal.{Deal}
use Rattle.swap_digraph.specs.Deal.{touches}
use Rattle.ledger_core.specs.declared.entry.Entry.{Entry}
use Rattle.ledger_core.specs.History.{height, IsLegal}
use Rattle.ledger_core.specs.Book.{history, IsLegalBook}
use Rattle.ledger_core.specs.WellFormed.{IsFormedEntry, written_height}
use Rattle.command_input.specs.declared.reason.Reason.{Reason}
use Rattle.transcript_book.specs.declared.said.Misspelling.{Misspelling}
use Rattle.transcript_book.specs.Between.{separated_parts}
use Rattle.transcript_book.specs.Entries.{parse_entry, parse_next_entry}
use Rattle.transcript_book.proofs.Placed.{entry_is}
use Rattle.told_ledgers.specs.declared.told_ledger.ToldLedger.{ToldLedger}
use Rattle.told_ledgers.specs.declared.heading.Heading.{Heading}
use Rattle.told_ledgers.specs.declared.one_ledger.Heard.{Heard}
use Rattle.told_ledgers.specs.declared.one_ledger.Heard.TheVariants.{More, Bad}
use Rattle.told_ledgers.specs.declared.stage.Stage.{Stage}
use Rattle.told_ledgers.specs.declared.stage.Stage.TheVariants.{Between, Over, Passing, Reading}
use Rattle.told_ledgers.specs.declared.chain_line.ChainLine.{ChainLine}
use Rattle.told_ledgers.specs.Chains.{chain_line_said, is_chain_line, with_chain_line}
use Rattle.told_ledgers.specs.Headings.{heading_said}
use Rattle.told_ledgers.specs.SoFar.{LedgerSoFar}
use Rattle.told_ledgers.specs.Words.{line_kind}
use Rattle.told_ledgers.specs.Ledger.{line_heard, nothing_read, whole_told_ledger, untold}
use Rattle.told_ledgers.specs.Telling.{Telling, begun_at_heading, chain_told, frame_told, with_chain, with_heard, line_told_at_stage, line_told, next_number, unless_bad_line, one_less, passing, reading_ledger}
use Rattle.told_ledgers.specs.Telling.{told_book, further_lines_told}
use Rattle.told_ledgers.specs.Inside.{AreLegal}

-- ---- the lines, one after another

module _ (n : ℕ) (s : Telling) (line : List ℕ) (ls rest : List (List ℕ)) (total : Result (List ToldLedger) Reason) (is : ls ≡ line ∷ rest)
    (so_far : further_lines_told n s ls ≡ total) where
  pub told_more : (t : Telling) → unless_bad_line n (line_told s line) ≡ Ok t → further_lines_told (next_number n) t rest ≡ total
  told_more t e =
      sym (ap (further_lines_told n s) is ∙ ap (λ (r : Result Telling Reason). r >>= λ u. further_lines_told (next_number n) u rest) e) ∙ so_far

  pub told_fault : (fault : Fault Reason) → Fails fault (unless_bad_line n (line_told s line)) → Fails fault total
  told_fault NoMemory f = tt
  told_fault (Refused reason) f =
      sym so_far ∙ ap (further_lines_told n s) is ∙ ap (λ (r : Result Telling Reason). r >>= λ u. further_lines_told (next_number n) u rest) f

-- ---- the deal stays

abbrev KeepsDeal : Telling → Result Telling Misspelling → Type 0
KeepsDeal s (Ok t) = t.deal ≡ s.deal
KeepsDeal s (Err e) = Unit {0}

reading_deal : (l : LedgerSoFar) (s : Telling) → (reading_ledger l s).deal ≡ s.deal
reading_deal l s = by (s.more == 0)
  where
    by : (t : Bool) → (cond t (record s { ledgers = slice_set s.ledgers l.arc (whole_told_ledger l); stage = Between }) (record s { stage = Reading l })).deal ≡ s.deal
    by true = refl
    by false = refl

gone_deal : (a : ℕ) (h : Heard) (s : Telling) → (with_heard a h s).deal ≡ s.deal
gone_deal a (More l) s = reading_deal l s
gone_deal a (Bad t) s = refl

begun_deal : (h : Heading) (s : Telling) → (begun_at_heading h s).deal ≡ s.deal
begun_deal h s = by (touches s.deal s.me h.arc)
  where
    at : Telling
    at = record s { least = h.arc + 1; count = h.count; more = h.count }

    by : (t : Bool) → (cond t (reading_ledger (nothing_read at.deal at.me h.arc) at) (passing at)).deal ≡ s.deal
    by true = reading_deal (nothing_read at.deal at.me h.arc) at
    by false = refl

chain_deal : (l : ChainLine) (s : Telling) → KeepsDeal s (with_chain s l)
chain_deal l s = by (with_chain_line l (get_or s.ledgers l.arc untold))
  where
    by : (r : Result ToldLedger Misspelling)
        → KeepsDeal s (r >>= λ t. Ok (record s { ledgers = slice_set s.ledgers l.arc t; least = length s.deal.graph.arcs }))
    by (Ok t) = refl
    by (Err e) = tt

frame_deal : (s : Telling) (line : List ℕ) → KeepsDeal s (frame_told s line)
unfolding frame_told chain_told
frame_deal s line =
    by (bytes_eq line (codes "end")) (is_chain_line (separated_parts 32 line)) (chain_line_said (length s.deal.graph.arcs) line)
    (heading_said s.least (length s.deal.graph.arcs) line)
  where
    by : (t u : Bool) (q : Result ChainLine Misspelling) (r : Result Heading Misspelling)
        → KeepsDeal s (cond t (Ok (record s { stage = Over })) (cond u (q >>= with_chain s) (r >>= λ h. Ok (begun_at_heading h s))))
    by true u q r = refl
    by false true (Ok l) r = chain_deal l s
    by false true (Err e) r = tt
    by false false q (Ok h) = begun_deal h s
    by false false q (Err e) = tt

line_deal : (g : Stage) (s : Telling) (line : List ℕ) → KeepsDeal s (line_told_at_stage g s line)
line_deal Between s line = frame_deal s line
line_deal Passing s line = refl
line_deal (Reading l) s line =
    gone_deal l.arc (line_heard (s.count - s.more) l (line_kind s.me (separated_parts 32 line)) line) (one_less s)
line_deal Over s line = tt

pub deal_stays : (n : ℕ) (s t : Telling) (line : List ℕ) → unless_bad_line n (line_told s line) ≡ Ok t → t.deal ≡ s.deal
deal_stays n s t line e = by (line_told s line) (line_deal s.stage s line) e
  where
    by : (r : Result Telling Misspelling) → KeepsDeal s r → unless_bad_line n r ≡ Ok t → t.deal ≡ s.deal
    by (Ok u) k q = let same : u ≡ t = cc q in ap (λ (x : Telling). x.deal) (sym same) ∙ k
    by (Err w) k q = absurd (cc q)

-- ---- entries

module _ (d : Deal) (a : ℕ) (past : List Entry) (line : List ℕ) (r : Result Entry (Fault Misspelling)) where
  -- a height that a ledger can have is written as it is
  pub stated_there : (h : List Entry) (n : ℕ) → h ≡ past → n ≡ height h → n ≤ 1000000 → Gives (λ e. e) r (parse_entry d a n line)
      → Gives (λ e. e) r (parse_next_entry d a past line)
  stated_there h n same is low g =
      let at : n ≡ written_height n = omega arith in
      let there : n ≡ written_height (height past) = at ∙ ap written_height (is ∙ ap height same) in
      subst (λ (k : ℕ). Gives (λ e. e) r (parse_entry d a k line)) there g

-- what is stated of a ledger is an entry that goes on it
pub formed_of : (d : Deal) (a : ℕ) (past : List Entry) (line : List ℕ) (r : Result Entry (Fault Misspelling))
    → Gives (λ e. e) r (parse_next_entry d a past line) → IfOk r (λ e. IsFormedEntry d a past e)
formed_of d a past line (Ok e) g = (entry_is d a past line e g).formed
formed_of d a past line (Err f) g = tt

-- ---- all arcs

pub legal_set : (d : Deal) (ts : List ToldLedger) (a : ℕ) (t : ToldLedger) → a < length ts → IsLegal d a t.history → AreLegal d ts
    → AreLegal d (set ts a t)
legal_set d ts a t lt l all c below = go (c == a) refl
  where
    go : (b : Bool) → (c == a) ≡ b → IsLegal d c (get_or (set ts a t) c untold).history
    go true e =
        let same : c ≡ a = eqb-true c a e in
        subst (λ z. IsLegal d z (get_or (set ts a t) z untold).history) (sym same)
        (subst (λ (x : ToldLedger). IsLegal d a x.history) (sym (get_or-set_same ts a t untold lt)) l)
    go false e =
        let other : c ≢ a = λ q. absurd (cc (sym e ∙ eq-eqb c a q)) in
        subst (λ (x : ToldLedger). IsLegal d c x.history) (sym (get_or-set_other ts a c t untold other))
        (all c (subst (λ z. c < z) (length-set ts a t) below))

-- the history of each arc is what is told of it
pub told_history : (ts : List ToldLedger) (a : ℕ) → history (told_book ts) a ≡ (get_or ts a untold).history
told_history ts a = get_or-map_at (λ (t : ToldLedger). t.history) ts a untold

pub book_is_legal : (d : Deal) (ts : List ToldLedger) → length ts ≡ length d.graph.arcs → AreLegal d ts → IsLegalBook d (told_book ts)
book_is_legal d ts count all =
    let long : length (told_book ts) ≡ length ts = length-map ts (λ (t : ToldLedger). t.history) in record {
      one_each = long ∙ count;
      legal = λ a lt. subst (IsLegal d a) (sym (told_history ts a)) (all a (subst (λ z. a < z) long lt));
    }

-- with what is told of a chain
pub legal_with : (d : Deal) (ts : List ToldLedger) (a : ℕ) (t : ToldLedger) → a < length ts → t.history ≡ (get_or ts a untold).history → AreLegal d ts
    → AreLegal d (set ts a t)
legal_with d ts a t lt same all = legal_set d ts a t lt (subst (IsLegal d a) (sym same) (all a lt)) all

-- an item of a list, whatever stands for none
pub item_is : (ts : List ToldLedger) (a : ℕ) (x : ToldLedger) → a < length ts → x ≡ get_or ts a x → x ≡ get_or ts a untold
item_is [] a x lt e = absurd (omega arith)
item_is (t ∷ ts) zero x lt e = e
item_is (t ∷ ts) (suc a) x lt e = item_is ts a x (omega arith) e
