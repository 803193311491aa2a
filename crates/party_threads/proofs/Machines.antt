-- What looks and calls leave of a machine.
use Rattle.std.proofs.Common.{◌≡◌, ℕ, ◌+◌, ◌<◌, ◌≤◌, ◌++◌, false, cond, List, [], ◌∷◌, length, set, Option, Some, None, refl, sym, ap, ◌∙◌, subst, inl}
use Rattle.std.proofs.Common.{arith, eq-eqb}
use Rattle.std.proofs.lemmas.List.{length-set, set-set}
use Rattle.swap_base.specs.Lists.{IsElement}
use Rattle.swap_digraph.specs.declared.deal.Deal.{Deal}
use Rattle.hashkey_path.specs.declared.hashkey.Hashkey.{Hashkey}
use Rattle.ledger_core.specs.declared.entry.Entry.{Entry}
use Rattle.ledger_core.specs.History.{is_sender, is_full, IsLegal}
use Rattle.ledger_core.specs.Ledger.{after_call}
use Rattle.ledger_core.specs.Book.{Histories, history}
use Rattle.ledger_shared.specs.Value.{PassState, SharedState, party_made}
use Rattle.party_wallet.specs.Value.{signed_hashkey}
use Rattle.party_machine.specs.Wallet.{seed_wallet}
use Rattle.party_machine.specs.Machine.{MachineState, next_due}
use Rattle.swap_rules.specs.Due.{Action, first}
use Rattle.swap_rules.specs.Machine.{IsSound, noted, appended_entry, rule_test}
use Rattle.swap_rules.proofs.Machines.{rules_transfer, learn_sound, call_sound}
use Rattle.swap_rules.proofs.Due.{IsDue, is_due, due_is_valid}
use Rattle.swap_rules.proofs.Conducting.{knows_all, history_same}
use Rattle.swap_rules.proofs.Prefixes.{begins_refl}
use Rattle.swap_rules.proofs.Room.{rules_leave_room}
use Rattle.swap_run.proofs.Entries.{call_pushes}
use Rattle.swap_run.proofs.Slots.{left, left_less}
use Rattle.swap_world.specs.Acting.{IsMakable, IsSameOwner}
use Rattle.party_threads.specs.Able.{watcher, machine_rest, IsAble}
use Rattle.party_threads.specs.Tracks.{HaveFresh, HaveLooked}
use Rattle.party_threads.proofs.Looking.{legal_after}
use Rattle.party_threads.proofs.Calls.{none_passes}

-- A look.

-- the machine that knows this
abbrev with_known : MachineState → Histories → MachineState
with_known m k = record { deal = m.deal; me = m.me; seed = m.seed; known = k; signed = m.signed }

able_with : (m : MachineState) (k : Histories) → IsAble m → length k ≡ length m.deal.graph.arcs → HaveFresh m.me m.known k
    → ((a : ℕ) → IsLegal m.deal a (history m.known a) → IsLegal m.deal a (history k a)) → IsAble (with_known m k)
able_with m k able many fresh legal = record {
  accepted = able.accepted;
  wallet = able.wallet;
  party = able.party;
  arcs = many;
  signs = able.signs;
  sound = record {
    legal = legal_after m.deal m.known k many legal able.sound.legal;
    rules =
        rules_transfer m.deal m.known k (signed_hashkey m.signed) m.me (λ a. record {
          rest = (fresh a).0;
          whole = (fresh a).1;
          others = none_passes (λ (e : Entry). is_sender m.me e.sender) (fresh a).0 (fresh a).2;
        }) able.sound.rules;
  };
}

-- what the looks leave can act
pub able_looked : (ledgers : List SharedState) (m n : MachineState) (ps qs : List (Option PassState)) (k : ℕ) → IsAble m
    → HaveLooked ledgers (watcher m) ps k (watcher n) qs → machine_rest n ≡ machine_rest m → IsAble n
able_looked ledgers m n ps qs k able h rest =
    let same : n ≡ with_known m n.known =
    λ i. record { deal = (rest i).deal; me = (rest i).me; seed = (rest i).seed; known = n.known; signed = (rest i).signed } in
    let many : length n.known ≡ length m.deal.graph.arcs = h.watching.known ∙ ap (λ (d : Deal). length d.graph.arcs) h.deal in
    subst IsAble (sym same) (able_with m n.known able many h.fresh h.legal)

pub owner_more : (l m n : MachineState) → IsSameOwner l m → IsSameOwner m n → IsSameOwner l n
owner_more l m n a b = record { deal = b.deal ∙ a.deal; me = b.me ∙ a.me; seed = b.seed ∙ a.seed }

-- A due call.

first_in : (xs : List Action) (x : Action) → first xs ≡ Some x → IsElement x xs
first_in [] x e = absurd (cc e)
first_in (y ∷ ys) x e = inl (cc)

due_of : (m : MachineState) (x : Action) → IsAble m → next_due m ≡ Some x
    → IsDue m.deal m.me (seed_wallet m.seed m.me m.deal) (signed_hashkey m.signed) m.known m.known x.arc x.call
due_of m x k e =
    is_due m.deal m.me (seed_wallet m.seed m.me m.deal) (signed_hashkey m.signed) m.known m.known k.sound.legal k.sound.rules
    (λ a. knows_all m.me (history m.known a)) k.wallet k.accepted x (first_in _ x e)

pub makable : (m : MachineState) (x : Action) → IsAble m → next_due m ≡ Some x → IsMakable m.deal m.me x
makable m x k e =
    let is = due_of m x k e in
    record { arc = is.below; of_the_two = is.of_the_two; fits = is.fits; valid = due_is_valid m.deal m.me _ _ m.known m.known x.arc x.call is }

-- the machine after its call
abbrev pub made_of : MachineState → List (Option Hashkey) → Action → List Entry → MachineState
made_of m signed x others =
    record {
      deal = m.deal;
      me = m.me;
      seed = m.seed;
      known = set m.known x.arc (after_call m.deal x.arc m.me x.call (history m.known x.arc ++ others));
      signed = signed;
    }

pub able_made : (m : MachineState) (signed : List (Option Hashkey)) (x : Action) (others : List Entry) → IsAble m → next_due m ≡ Some x
    → length signed ≡ length m.signed → signed_hashkey signed ≡ noted (signed_hashkey m.signed) x.call → party_made m.me others ≡ []
    → IsLegal m.deal x.arc (history m.known x.arc ++ others) → IsAble (made_of m signed x others)
able_made m signed x others k e many is none legal =
    let h = history m.known x.arc ++ others in
    let below : x.arc < length m.known = subst (λ z. x.arc < z) (sym k.arcs) (due_of m x k e).below in
    let sound =
    call_sound m.deal m.me (seed_wallet m.seed m.me m.deal) m.known (signed_hashkey m.signed) x others k.wallet k.accepted (first_in _ x e) below
    (none_passes (λ (y : Entry). is_sender m.me y.sender) others none) legal k.sound in
    record {
      accepted = k.accepted;
      wallet = k.wallet;
      party = k.party;
      arcs = length-set m.known x.arc (after_call m.deal x.arc m.me x.call h) ∙ k.arcs;
      signs = many ∙ k.signs;
      sound =
          subst (λ f. IsSound m.deal (set m.known x.arc (after_call m.deal x.arc m.me x.call h)) f m.me) (sym is)
          (subst (λ b. IsSound m.deal b (noted (signed_hashkey m.signed) x.call) m.me) (set-set m.known x.arc h (after_call m.deal x.arc m.me x.call h)) sound);
    }

-- What it may still call.

-- the ledger of a due call has room for it
room_made : (m : MachineState) (x : Action) (others : List Entry) → IsAble m → next_due m ≡ Some x → party_made m.me others ≡ []
    → IsLegal m.deal x.arc (history m.known x.arc ++ others) → is_full (history m.known x.arc ++ others) m.me ≡ false
room_made m x others k e none legal =
    let below : x.arc < length m.known = subst (λ z. x.arc < z) (sym k.arcs) (due_of m x k e).below in
    let s =
    learn_sound m.deal m.known (signed_hashkey m.signed) m.me x.arc others below (none_passes (λ (y : Entry). is_sender m.me y.sender) others none) legal
    k.sound in
    subst (λ h. is_full h m.me ≡ false) (history_same m.known x.arc (history m.known x.arc ++ others) below)
    (rules_leave_room m.deal (set m.known x.arc (history m.known x.arc ++ others)) (signed_hashkey m.signed) m.me x.arc k.accepted s.legal s.rules)

-- a due call leaves one less
pub left_made : (m : MachineState) (signed : List (Option Hashkey)) (x : Action) (others : List Entry) → IsAble m → next_due m ≡ Some x
    → party_made m.me others ≡ [] → IsLegal m.deal x.arc (history m.known x.arc ++ others)
    → left m.deal m.me (made_of m signed x others).known + 1 ≤ left m.deal m.me m.known
left_made m signed x others k e none legal =
    let is = due_of m x k e in
    let below : x.arc < length m.known = subst (λ z. x.arc < z) (sym k.arcs) is.below in
    let h : List Entry = history m.known x.arc ++ others in
    let there : history (set m.known x.arc (after_call m.deal x.arc m.me x.call h)) x.arc ≡ h ++ appended_entry m.deal x.arc h m.me x.call ∷ [] =
    history_same m.known x.arc (after_call m.deal x.arc m.me x.call h) below
    ∙ call_pushes m.deal x.arc h m.me x.call (room_made m x others k e none legal) in
    left_less m.deal m.me m.known (after_call m.deal x.arc m.me x.call h) h x.arc (appended_entry m.deal x.arc h m.me x.call) is.slot there (others, refl)
    is.slot_in is.below is.fresh (ap (rule_test is.slot) (ap (λ z. cond z (Some x.call) None) (eq-eqb m.me m.me refl)) ∙ is.passes)

-- who may make no further call has nothing due
pub none_left : (m : MachineState) → IsAble m → left m.deal m.me m.known ≡ 0 → next_due m ≡ None
none_left m k none = go (next_due m) refl
  where
    go : (o : Option Action) → next_due m ≡ o → next_due m ≡ None
    go None e = e
    go (Some x) e =
        let is = due_of m x k e in
        let below : x.arc < length m.known = subst (λ z. x.arc < z) (sym k.arcs) is.below in
        let h : List Entry = history m.known x.arc in
        let entry : Entry = appended_entry m.deal x.arc h m.me x.call in
        let less =
        left_less m.deal m.me m.known (h ++ entry ∷ []) h x.arc entry is.slot (history_same m.known x.arc (h ++ entry ∷ []) below) (begins_refl h)
        is.slot_in is.below is.fresh (ap (rule_test is.slot) (ap (λ z. cond z (Some x.call) None) (eq-eqb m.me m.me refl)) ∙ is.passes) in
        absurd (over (left m.deal m.me (set m.known x.arc (h ++ entry ∷ []))) (left m.deal m.me m.known) less none)
      where
        over : (less all : ℕ) → less + 1 ≤ all → all ≡ 0 → ⊥
        over less all a b = omega (arith, a, b)
