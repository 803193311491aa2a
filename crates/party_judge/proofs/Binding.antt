-- One digest is that of one agreement.
use Rattle.std.proofs.Common.{◌≡◌, ◌⊎◌, ◌==◌, ◌-◌, ◌&&◌, inl, inr, ℕ, Bool, true, false, not, cond, List, [], ◌∷◌, ◌++◌, Result, Ok, Err, length, take, map, refl, sym, ap, ◌∙◌, subst, eq-eqb}
use Rattle.std.proofs.lemmas.List.{append_cancel_right}
use Rattle.std.specs.List.{list_all, flat_map, AllByRecursion}
use Rattle.std.specs.Str.{bytes_eq}
use Rattle.sha2.specs.Sha256.{sha256}
use Rattle.hashkey_path.proofs.Validity.{bytes_eq-true}
use Rattle.swap_base.specs.Fault.{◌>>=◌}
use Rattle.swap_job.specs.declared.job.Job.{Job}
use Rattle.command_input.specs.declared.reason.Reason.TheVariants.{CutShort}
use Rattle.command_input.specs.declared.refusal.Refusal.{Refusal}
use Rattle.offer_moves.proofs.Chains.{went}
use Rattle.transcript_book.specs.declared.said.Misspelling.{Misspelling}
use Rattle.transcript_book.specs.Between.{fed_lines, longer_first, separated_parts}
use Rattle.transcript_book.proofs.OneLine.{IsOneLine}
use Rattle.audit_command.proofs.Back.{parts_of_lines}
use Rattle.party_rows.specs.Lines.{ended_lines, following_line_number, is_ended, nameless, or_bad_line}
use Rattle.party_terms.specs.declared.context.ContextLine.{ContextLine}
use Rattle.party_terms.specs.declared.context.Context.{Context}
use Rattle.party_terms.specs.Context.{check_room, context_end, is_context_line, parse_context, parse_context_line, with_context_line, with_context_lines}
use Rattle.party_terms.specs.Terms.{AgreedState, agreed_digest, agreed_text, parse_agreed, parse_header_line}
use Rattle.party_judge.specs.Laws.{HasCollision, IsSameAgreement, OneDigestOneAgreement}

-- ---- lines of a text

longer_lines : (x : ℕ) (ps : List (List ℕ)) → (x == 10) ≡ false → AllByRecursion IsOneLine ps → AllByRecursion IsOneLine (longer_first x ps)
longer_lines x [] e h = (ap (λ t. not t && true) e, tt)
longer_lines x (w ∷ ws) e h = (ap (λ t. not t && list_all (λ y. not (y == 10)) w) e ∙ h.0, h.1)

-- no part of a text between line feeds has a line feed
parts_are_lines : (xs : List ℕ) → AllByRecursion IsOneLine (separated_parts 10 xs)
parts_are_lines [] = (refl, tt)
parts_are_lines (x ∷ xs) = by (x == 10) refl (parts_are_lines xs)
  where
    by : (t : Bool) → (x == 10) ≡ t → AllByRecursion IsOneLine (separated_parts 10 xs)
        → AllByRecursion IsOneLine (cond t ([] ∷ separated_parts 10 xs) (longer_first x (separated_parts 10 xs)))
    by true e h = (refl, h)
    by false e h = longer_lines x (separated_parts 10 xs) e h

ended_are_lines : (text : List ℕ) (ls : List (List ℕ)) → ended_lines text ≡ Ok ls → AllByRecursion IsOneLine ls
unfolding ended_lines
ended_are_lines text ls e = by (is_ended text) e
  where
    parts : List (List ℕ)
    parts = separated_parts 10 (take (length text - 1) text)

    same : (x y : List (List ℕ)) → ◌≡◌ {A = Result (List (List ℕ)) Refusal} (Ok x) (Ok y) → x ≡ y
    same x y k = cc

    by : (t : Bool) → cond t (Ok parts) (Err (nameless CutShort)) ≡ Ok ls → AllByRecursion IsOneLine ls
    by true k = subst (AllByRecursion IsOneLine) (same parts ls k) (parts_are_lines (take (length text - 1) text))
    by false k = absurd (cc k)

-- ---- lines of context

-- A line of context is one line, and its arc is what it tells.
abbrev IsTold : ℕ → ContextLine → Type 0
IsTold arcs x = IsOneLine x.line × (parse_context_line arcs x.line ≡ Ok x.arc)

one_more : (arcs : ℕ) (list : List ContextLine) (x : ContextLine) → AllByRecursion (IsTold arcs) list → IsTold arcs x → AllByRecursion (IsTold arcs) (list ++ x ∷ [])
one_more arcs [] x h k = (k, tt)
one_more arcs (y ∷ list) x h k = (h.0, one_more arcs list x h.1 k)

good_line : {A : Type 0} (n : ℕ) (r : Result A Misspelling) (y : A) → or_bad_line n r ≡ Ok y → r ≡ Ok y
good_line n (Ok x) y e = cc
good_line n (Err f) y e = absurd (cc e)

list_is : (x y : List ContextLine) → ◌≡◌ {A = Result (List ContextLine) Refusal} (Ok x) (Ok y) → x ≡ y
list_is x y e = cc

with_line : (arcs n : ℕ) (list more : List ContextLine) (l : List ℕ) → AllByRecursion (IsTold arcs) list → IsOneLine l
    → with_context_line arcs n list l ≡ Ok more → AllByRecursion (IsTold arcs) more
unfolding with_context_line
with_line arcs n list more l h one e =
    let room = went (check_room n list) (λ u. or_bad_line n (parse_context_line arcs l) >>= λ arc. Ok (list ++ record { arc = arc; line = l } ∷ [])) more e in
    let arc = went (or_bad_line n (parse_context_line arcs l)) (λ arc. Ok (list ++ record { arc = arc; line = l } ∷ [])) more room.2 in
    subst (AllByRecursion (IsTold arcs)) (list_is (list ++ record { arc = arc.0; line = l } ∷ []) more arc.2)
    (one_more arcs list (record { arc = arc.0; line = l }) h (one, good_line n (parse_context_line arcs l) arc.0 arc.1))

end_is : (x y : Context × List (List ℕ)) → ◌≡◌ {A = Result (Context × List (List ℕ)) Refusal} (Ok x) (Ok y) → x ≡ y
end_is x y e = cc

-- what is told of the lines behind a line of context
module _ (arcs n : ℕ) (list : List ContextLine) (l : List ℕ) (ls : List (List ℕ)) (c : Context) (behind : List (List ℕ))
    (go : (more : List ContextLine) → AllByRecursion (IsTold arcs) more → with_context_lines arcs (following_line_number n) more ls ≡ Ok (c, behind)
    → AllByRecursion (IsTold arcs) c.list) (h : AllByRecursion (IsTold arcs) list) (one : IsOneLine l) where
  behind_line : (m : Result (List ContextLine) Refusal) → with_context_line arcs n list l ≡ m
      → (m >>= λ more. with_context_lines arcs (following_line_number n) more ls) ≡ Ok (c, behind) → AllByRecursion (IsTold arcs) c.list
  behind_line (Ok more) q k = go more (with_line arcs n list more l h one q) k
  behind_line (Err f) q k = absurd (cc k)

  by_line : (t : Bool)
      → cond t (with_context_line arcs n list l >>= λ more. with_context_lines arcs (following_line_number n) more ls) (context_end n list (l ∷ ls)) ≡ Ok (c, behind)
      → AllByRecursion (IsTold arcs) c.list
  by_line true k = behind_line (with_context_line arcs n list l) refl k
  by_line false k =
      subst (AllByRecursion (IsTold arcs)) (ap (λ (x : Context × List (List ℕ)). x.0.list) (end_is (record { list = list; next = n }, l ∷ ls) (c, behind) k)) h

context_told : (arcs n : ℕ) (list : List ContextLine) (ls : List (List ℕ)) (c : Context) (behind : List (List ℕ)) → AllByRecursion (IsTold arcs) list
    → AllByRecursion IsOneLine ls → with_context_lines arcs n list ls ≡ Ok (c, behind) → AllByRecursion (IsTold arcs) c.list
context_told arcs n list [] c behind h lines e =
    subst (AllByRecursion (IsTold arcs)) (ap (λ (x : Context × List (List ℕ)). x.0.list) (end_is (record { list = list; next = n }, []) (c, behind) e)) h
context_told arcs n list (l ∷ ls) c behind h lines e =
    by_line arcs n list l ls c behind (λ more k g. context_told arcs (following_line_number n) more ls c behind k lines.1 g) h lines.0 (is_context_line l) e

-- ---- what is agreed on

-- What a header line and its lines of context make.
record IsMade (s : AgreedState) : Type 0 where
  header : List ℕ
  one : IsOneLine header
  job : parse_header_line 1 header ≡ Ok s.job
  context : AllByRecursion (IsTold (length s.job.deal.graph.arcs)) s.context
  digest : s.digest ≡ sha256 (agreed_text header s.context)

state_is : (x y : AgreedState × List (List ℕ)) → ◌≡◌ {A = Result (AgreedState × List (List ℕ)) Refusal} (Ok x) (Ok y) → x ≡ y
state_is x y e = cc

abbrev state : Job → List ℕ → Context → AgreedState
state job header c = record { job = job; context = c.list; digest = agreed_digest header c.list; next = c.next }

of_parts : (l : List ℕ) (ls : List (List ℕ)) (job : Job) (c : Context) (rest : List (List ℕ)) → IsOneLine l → AllByRecursion IsOneLine ls
    → parse_header_line 1 l ≡ Ok job → parse_context (length job.deal.graph.arcs) (following_line_number 1) ls ≡ Ok (c, rest) → IsMade (state job l c)
unfolding parse_context agreed_digest
of_parts l ls job c rest one lines j k = record {
  header = l;
  one = one;
  job = j;
  context = context_told (length job.deal.graph.arcs) (following_line_number 1) [] ls c rest tt lines k;
  digest = refl;
}

made : (ls behind : List (List ℕ)) (s : AgreedState) → AllByRecursion IsOneLine ls → parse_agreed 1 ls ≡ Ok (s, behind) → IsMade s
unfolding parse_agreed
made [] behind s lines e = absurd (cc e)
made (l ∷ ls) behind s lines e =
    let job = went (parse_header_line 1 l) (λ job. parse_context (length job.deal.graph.arcs) (following_line_number 1) ls >>= λ c. Ok (state job l c.0, c.1)) (s, behind) e in
    let context = went (parse_context (length job.0.deal.graph.arcs) (following_line_number 1) ls) (λ c. Ok (state job.0 l c.0, c.1)) (s, behind) job.2 in
    let is : state job.0 l context.0.0 ≡ s = ap (λ (x : AgreedState × List (List ℕ)). x.0) (state_is (state job.0 l context.0.0, context.0.1) (s, behind) context.2) in
    subst IsMade is (of_parts l ls job.0 context.0.0 context.0.1 lines.0 lines.1 job.1 context.1)

-- ---- one text, one agreement

abbrev line_of : ContextLine → List ℕ
line_of x = x.line

fed_context : (c : List ContextLine) → flat_map (λ x. x.line ++ 10 ∷ []) c ≡ fed_lines (map line_of c)
fed_context [] = refl
fed_context (x ∷ c) = ap (λ (r : List ℕ). (x.line ++ 10 ∷ []) ++ r) (fed_context c)

told_lines : (arcs : ℕ) (c : List ContextLine) → AllByRecursion (IsTold arcs) c → AllByRecursion IsOneLine (map line_of c)
told_lines arcs [] h = tt
told_lines arcs (x ∷ c) h = (h.0.0, told_lines arcs c h.1)

fed_agreed : (header : List ℕ) (c : List ContextLine) → agreed_text header c ≡ fed_lines (header ∷ map line_of c)
fed_agreed header c = ap (λ (r : List ℕ). (header ++ 10 ∷ []) ++ r) (fed_context c)

same_lines : (ls ms : List (List ℕ)) → AllByRecursion IsOneLine ls → AllByRecursion IsOneLine ms → fed_lines ls ≡ fed_lines ms → ls ≡ ms
same_lines ls ms h k e =
    append_cancel_right ls ms ([] ∷ []) (sym (parts_of_lines ls h) ∙ ap (separated_parts 10) e ∙ parts_of_lines ms k)

same_arc : (x y : ℕ) → ◌≡◌ {A = Result ℕ Misspelling} (Ok x) (Ok y) → x ≡ y
same_arc x y e = cc

same_line : (x y : ContextLine) → x.line ≡ y.line → x.arc ≡ y.arc → x ≡ y
same_line x y e f = ap (λ (l : List ℕ). let z : ContextLine = record { arc = x.arc; line = l } in z) e
    ∙ ap (λ (a : ℕ). let z : ContextLine = record { arc = a; line = y.line } in z) f

same_context : (arcs : ℕ) (c k : List ContextLine) → AllByRecursion (IsTold arcs) c → AllByRecursion (IsTold arcs) k → map line_of c ≡ map line_of k → c ≡ k
same_context arcs [] [] h g e = refl
same_context arcs [] (y ∷ k) h g e = absurd (cc e)
same_context arcs (x ∷ c) [] h g e = absurd (cc e)
same_context arcs (x ∷ c) (y ∷ k) h g e =
    let head : x.line ≡ y.line = cc e in
    let rest : map line_of c ≡ map line_of k = cc e in
    let arc : x.arc ≡ y.arc = same_arc x.arc y.arc (sym h.0.1 ∙ ap (parse_context_line arcs) head ∙ g.0.1) in
    ap (λ (z : ContextLine). z ∷ c) (same_line x y head arc) ∙ ap (λ (zs : List ContextLine). y ∷ zs) (same_context arcs c k h.1 g.1 rest)

same_job : (x y : Job) → ◌≡◌ {A = Result Job Refusal} (Ok x) (Ok y) → x ≡ y
same_job x y e = cc

one_text : (s t : AgreedState) (a : IsMade s) (b : IsMade t) → agreed_text a.header s.context ≡ agreed_text b.header t.context → IsSameAgreement s t
one_text s t a b e =
    let lines : a.header ∷ map line_of s.context ≡ b.header ∷ map line_of t.context
    = same_lines (a.header ∷ map line_of s.context) (b.header ∷ map line_of t.context) (a.one, told_lines (length s.job.deal.graph.arcs) s.context a.context)
    (b.one, told_lines (length t.job.deal.graph.arcs) t.context b.context) (sym (fed_agreed a.header s.context) ∙ e ∙ fed_agreed b.header t.context) in
    let head : a.header ≡ b.header = cc lines in
    let rest : map line_of s.context ≡ map line_of t.context = cc lines in
    let job : s.job ≡ t.job = same_job s.job t.job (sym a.job ∙ ap (parse_header_line 1) head ∙ b.job) in record {
      job = job;
      context = same_context (length t.job.deal.graph.arcs) s.context t.context
          (subst (λ (j : Job). AllByRecursion (IsTold (length j.deal.graph.arcs)) s.context) job a.context) b.context rest;
    }

bytes_same : (x : List ℕ) → bytes_eq x x ≡ true
bytes_same [] = refl
bytes_same (x ∷ xs) = ap (λ t. t && bytes_eq xs xs) (eq-eqb x x refl) ∙ bytes_same xs

same_eq : (x y : List ℕ) → x ≡ y → bytes_eq x y ≡ true
same_eq x y is = subst (λ (z : List ℕ). bytes_eq x z ≡ true) is (bytes_same x)

pub binds : OneDigestOneAgreement
binds text ls behind s e p other ms more t f q digest = by (bytes_eq x y) refl
  where
    a : IsMade s
    a = made ls behind s (ended_are_lines text ls e) p

    b : IsMade t
    b = made ms more t (ended_are_lines other ms f) q

    x : List ℕ
    x = agreed_text a.header s.context

    y : List ℕ
    y = agreed_text b.header t.context

    by : (u : Bool) → bytes_eq x y ≡ u → IsSameAgreement s t ⊎ HasCollision
    by true k = inl (one_text s t a b (bytes_eq-true x y k))
    by false k = inr (record { one = x; other = y; is = record { differ = λ is. absurd (cc (sym k ∙ same_eq x y is)); same = sym a.digest ∙ digest ∙ b.digest } })
