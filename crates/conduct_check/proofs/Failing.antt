-- The entries that fail a test, by a walk over the calls.
use Rattle.std.proofs.Common.{◌≡◌, ℕ, ◌+◌, ◌<◌, ◌≤◌, Bool, true, false, cond, not, List, [], ◌∷◌, ◌++◌, length, get_or, take, Option, Some, None, refl}
use Rattle.std.proofs.Common.{sym, ap, ◌∙◌, append_assoc}
use Rattle.std.specs.Prelude.{filter_map}
use Rattle.std.specs.List.{cons_option}
use Rattle.std.proofs.lemmas.List.{take_more, take_all}
use Rattle.std.proofs.lemmas.List.Elements.{filter_map-append}
use Rattle.swap_base.specs.Lists.{Moment}
use Rattle.ledger_core.specs.declared.entry.What.TheVariants.{Tick}
use Rattle.ledger_core.specs.declared.entry.Entry.{Entry}
use Rattle.history_index.specs.declared.made.Made.{Made}
use Rattle.history_index.specs.Made.{history_calls}
use Rattle.swap_rules.specs.declared.finding.Finding.{Finding}
use Rattle.swap_rules.specs.Findings.{failing}
use Rattle.history_index.proofs.Calls.{failing_made, moment_of}

-- what is said of a call of h that fails the test
abbrev pub said : (ℕ → Finding) → (Moment Entry → Bool) → List Entry → Made → Option Finding
said say test h m = cond (test (moment_of h m)) None (Some (say m.number))

one : (b : Bool) (y : Finding) → cons_option (cond b None (Some y)) [] ≡ cond (not b) (y ∷ []) []
one true y = refl
one false y = refl

-- what is added for one more call
pub said_more : (say : ℕ → Finding) (test : Moment Entry → Bool) (h : List Entry) (old now new : List Finding) (ms : List Made) (i : ℕ) (x : Made)
    → i < length ms → x ≡ get_or ms i x → now ≡ old ++ filter_map (said say test h) (take i ms)
    → new ≡ now ++ cond (not (test (record { past = take x.number h; now = x.entry }))) (say x.number ∷ []) []
    → new ≡ old ++ filter_map (said say test h) (take (i + 1) ms)
said_more say test h old now new ms i x lt is e k =
    let f = said say test h in
    let added : List Finding = cond (not (test (record { past = take x.number h; now = x.entry }))) (say x.number ∷ []) [] in
    let all : filter_map f (take (i + 1) ms) ≡ filter_map f (take i ms) ++ added =
    ap (filter_map f) (take_more ms i x lt ∙ ap (λ z. take i ms ++ z ∷ []) (sym is)) ∙ filter_map-append f (take i ms) (x ∷ [])
    ∙ ap (λ l. filter_map f (take i ms) ++ l) (one (test (record { past = take x.number h; now = x.entry })) (say x.number)) in
    k ∙ (ap (λ l. l ++ added) e ∙ (append_assoc old (filter_map f (take i ms)) added ∙ ap (λ l. old ++ l) (sym all)))

-- where no tick fails, the calls are all that do
pub said_all : (say : ℕ → Finding) (test : Moment Entry → Bool) (h : List Entry) → ((m : Moment Entry) (k : ℕ) → m.now.what ≡ Tick k → test m ≡ true)
    → filter_map (said say test h) (history_calls h) ≡ failing say test h
said_all say test h tick = sym (failing_made test say h tick)

-- at the end of the walk
pub said_done : (say : ℕ → Finding) (test : Moment Entry → Bool) (h : List Entry) (old now : List Finding) (ms : List Made) (i : ℕ)
    → ((m : Moment Entry) (k : ℕ) → m.now.what ≡ Tick k → test m ≡ true) → length ms ≤ i → ms ≡ history_calls h
    → now ≡ old ++ filter_map (said say test h) (take i ms) → now ≡ old ++ failing say test h
said_done say test h old now ms i tick le is e =
    e ∙ ap (λ l. old ++ l) (ap (filter_map (said say test h)) (take_all i ms le ∙ is) ∙ said_all say test h tick)
