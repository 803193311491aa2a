-- The program's strategies answer calls that hold digests.
use Rattle.std.proofs.Common.{◌%◌, ℕ, Bool, true, false, cond, List, [], ◌∷◌, length, Option, Some, None, option_map, codes, subst}
use Rattle.std.specs.Prelude.{All}
use Rattle.std.specs.Str.{bytes_eq}
use Rattle.std.specs.List.{flat_map}
use Rattle.std.proofs.lemmas.List.Elements.{All-append, All-cons, All-from_get_or, All-head, All-nil, All-tail}
use Rattle.swap_digraph.specs.Graph.{entering, leaving}
use Rattle.swap_digraph.specs.declared.deal.Deal.{Deal}
use Rattle.hashkey_path.specs.declared.hashkey.Hashkey.{Hashkey}
use Rattle.escrow_core.specs.declared.reply.Reply.{Reply}
use Rattle.escrow_core.specs.declared.reply.Reply.TheVariants.{Accepted}
use Rattle.ledger_core.specs.declared.entry.Call.{Call}
use Rattle.ledger_core.specs.declared.entry.Call.TheVariants as calls
use Rattle.ledger_core.specs.declared.entry.What.{What}
use Rattle.ledger_core.specs.declared.entry.What.TheVariants.{Call as Made, Tick}
use Rattle.ledger_core.specs.declared.entry.Entry.{Entry}
use Rattle.ledger_core.specs.History.{accepted, accepted_call}
use Rattle.ledger_core.specs.Book.{Histories}
use Rattle.swap_run.specs.Rules.{item_in_turn, greedy, call_keys, keys_known, replayer, silent, spoiled_terms, spoiler, make_unlock}
use Rattle.swap_run.specs.Program.{program_rule}
use Rattle.typed_books.specs.Typed.{IsDigest}
use Rattle.program_laws.specs.Digests.{StatesDigests}
use Rattle.program_laws.specs.RunDigests.{ProgramKeepsDigests}
use Rattle.program_laws.proofs.Hashes.{May, KeyHas}
use Rattle.program_laws.proofs.Calls.{AnswerHas, BookHas, EntryHas, Has, at_or}

around_has : {A : Type 0} (P : A → Type 0) (xs : List A) (t : ℕ) → All P xs → May P (item_in_turn xs t)
around_has P [] t k = tt
around_has P (x ∷ xs) t k = at_or P (x ∷ xs) (t % length (x ∷ xs)) x (All-head P x xs k) k

claims : (o : Option ℕ) → May AnswerHas (option_map (λ (a : ℕ). (a, calls.Claim)) o)
claims None = tt
claims (Some a) = tt

publishes : (d : Deal) (o : Option ℕ) → All IsDigest d.hashlocks → May AnswerHas (option_map (λ (a : ℕ). (a, calls.Publish (spoiled_terms d a))) o)
publishes d None k = tt
publishes d (Some a) k = k

unlocks : (o : Option ℕ) (r : Option Hashkey) → May KeyHas r → May AnswerHas (make_unlock o r)
unlocks None r k = tt
unlocks (Some a) None k = tt
unlocks (Some a) (Some key) k = k

key_in_has : (w : What) (r : Reply) → StatesDigests w → All KeyHas (call_keys (accepted_call w r))
key_in_has (Made (calls.Unlock key)) Accepted h = All-cons KeyHas key [] h (All-nil KeyHas)
key_in_has (Made (calls.Publish terms)) Accepted h = All-nil KeyHas
key_in_has (Made calls.Claim) Accepted h = All-nil KeyHas
key_in_has (Made calls.Refund) Accepted h = All-nil KeyHas
key_in_has (Made (calls.Transfer to units)) Accepted h = All-nil KeyHas
key_in_has (Made c) _ h = All-nil KeyHas
key_in_has (Tick k) r h = All-nil KeyHas

read_keys : (h : List Entry) → Has h → All KeyHas (flat_map (λ e. call_keys (accepted e)) h)
read_keys [] k = All-nil KeyHas
read_keys (e ∷ h) k =
    All-append KeyHas (call_keys (accepted e)) (flat_map (λ e. call_keys (accepted e)) h) (key_in_has e.what e.reply (All-head EntryHas e h k))
    (read_keys h (All-tail EntryHas e h k))

all_keys : (b : Histories) → BookHas b → All KeyHas (keys_known b)
all_keys [] k = All-nil KeyHas
all_keys (h ∷ b) k =
    All-append KeyHas (flat_map (λ e. call_keys (accepted e)) h) (keys_known b) (read_keys h (All-head Has h b k)) (all_keys b (All-tail Has h b k))

by_test : (t : Bool) (x y : Option (ℕ × Call)) → May AnswerHas x → May AnswerHas y → May AnswerHas (cond t x y)
by_test true x y h k = h
by_test false x y h k = k

program_has : (name : List ℕ) (d : Deal) (p t : ℕ) (b : Histories) → All IsDigest d.hashlocks → BookHas b → May AnswerHas (program_rule name d p t b)
program_has name d p t b locks k =
    by_test (bytes_eq (codes "silent") name) (silent d p t b) _ tt
    (by_test (bytes_eq (codes "greedy") name) (greedy d p t b) _ (claims (item_in_turn (entering d.graph p) t))
    (by_test (bytes_eq (codes "replayer") name) (replayer d p t b) _
    (unlocks (item_in_turn (entering d.graph p) t) (item_in_turn (keys_known b) t) (around_has KeyHas (keys_known b) t (all_keys b k)))
    (by_test (bytes_eq (codes "spoiler") name) (spoiler d p t b) None (publishes d (item_in_turn (leaving d.graph p) t) locks) tt)))

pub program_keeps_digests : ProgramKeepsDigests
program_keeps_digests name d p t b x locks k e =
    subst (May AnswerHas) e (program_has name d p t b locks (All-from_get_or Has b [] k))
