-- A machine that acts: what holds after each of its calls.
use Rattle.std.proofs.Common.{◌≡◌, ℕ, ◌+◌, ◌≤◌, List, Option, Some, None, option_map, refl, sym, ap, ◌∙◌}
use Rattle.std.proofs.Common.{subst, arith, Result, Ok, Err, OnOk}
use Rattle.ledger_core.specs.declared.entry.Call.{Call}
use Rattle.ledger_core.proofs.CallSignatures.{valid_is_known_in}
use Rattle.ledger_shared.specs.Value.{PassState, SharedState}
use Rattle.party_wallet.specs.Value.{signed_hashkey}
use Rattle.party_machine.specs.Machine.{MachineState, due_action, next_due, noted_if_called, IsOfSame}
use Rattle.swap_rules.specs.Machine.{noted}
use Rattle.swap_run.specs.Fair.{most_acts}
use Rattle.swap_run.proofs.Slots.{left, left_most}
use Rattle.swap_world.specs.Acting.{IsMakable, IsSameOwner}
use Rattle.party_threads.specs.Able.{watcher, machine_rest, IsAble}
use Rattle.party_threads.specs.Later.{HaveAdvanced}
use Rattle.party_threads.specs.Tracks.{HaveSeenAll, IsSameElsewhere, CanWatcherCall, HasLearntCall}
use Rattle.party_threads.specs.Took.{IsMachineSeated, HasActed}
use Rattle.party_threads.proofs.Machines.{makable, made_of, able_made, owner_more, left_made, none_left}
use Rattle.party_threads.proofs.Passes.{none_went, all_more, seen_of, elsewhere_more}

-- what holds after k acts
pub record IsActing (ledgers : List SharedState) (m : MachineState) (ps : List (Option PassState)) (k : ℕ) (n : MachineState) (qs : List (Option PassState))
    : Type 0 where
  pub seated : IsMachineSeated ledgers n qs
  pub gone_on : HaveAdvanced ps qs
  pub seen : HaveSeenAll ps → HaveSeenAll qs
  pub owner : IsSameOwner m n
  pub elsewhere : IsSameElsewhere ps m.known n.known
  -- of all calls that a party may make, k are made
  pub few : left n.deal n.me n.known + k ≤ most_acts m.deal

pub acts_begin : (ledgers : List SharedState) (m : MachineState) (ps : List (Option PassState)) (k : ℕ) → k ≡ 0 → IsMachineSeated ledgers m ps
    → IsActing ledgers m ps k m ps
acts_begin ledgers m ps k none seated = record {
  seated = seated;
  gone_on = none_went ps;
  seen = λ h. h;
  owner = record { deal = refl; me = refl; seed = refl };
  elsewhere = λ a none. refl;
  few = let most = left_most m.deal m.me m.known in omega (arith, most, none);
}

pub acts_on : (ledgers : List SharedState) (m n o : MachineState) (ps qs rs : List (Option PassState)) (k : ℕ) → IsActing ledgers m ps k n qs
    → HaveAdvanced qs rs → IsMachineSeated ledgers o rs → (HaveSeenAll qs → HaveSeenAll rs) → IsSameOwner n o
    → IsSameElsewhere qs n.known o.known → left n.deal n.me o.known + 1 ≤ left n.deal n.me n.known → IsActing ledgers m ps (k + 1) o rs
acts_on ledgers m n o ps qs rs k h gone seated seen owner elsewhere fewer = record {
  seated = seated;
  gone_on = all_more ps qs rs h.gone_on gone;
  seen = λ all. seen (h.seen all);
  owner = owner_more m n o h.owner owner;
  elsewhere = elsewhere_more ps qs m.known n.known o.known h.gone_on h.elsewhere elsewhere;
  few =
      let same : left o.deal o.me o.known ≡ left n.deal n.me o.known = λ i. left (owner.deal i) (owner.me i) o.known in
      let few = h.few in
      omega (arith, same, few, fewer);
}

-- after as many acts as there are calls nothing is due
pub acts_end : (ledgers : List SharedState) (m : MachineState) (ps : List (Option PassState)) (k : ℕ) (n : MachineState) (qs : List (Option PassState))
    → IsActing ledgers m ps k n qs → most_acts m.deal ≤ k → next_due n ≡ None
acts_end ledgers m ps k n qs h all =
    none_left n h.seated.able (let few = h.few in omega (arith, few, all))

-- An act.

-- The machine has answered the call x, which is due.
module _ (m answered : MachineState) (o : Option (ℕ × Call)) (x : ℕ × Call) (able : IsAble m) (is : o ≡ Some x) (first : option_map due_action o ≡ next_due m) (same : IsOfSame m answered) where
  due : next_due m ≡ Some (due_action x)
  due = sym first ∙ ap (option_map due_action) is

  same_watcher : watcher answered ≡ watcher m
  same_watcher = λ i. record { deal = same.deal i; me = same.me i; known = same.known i }

  pub can_call : (known : ℕ) → CanWatcherCall (watcher answered) x.0 x.1 known
  can_call known =
      let can : IsMakable m.deal m.me (due_action x) = makable m (due_action x) able due in
      subst (λ w. CanWatcherCall w x.0 x.1 known) (sym same_watcher) (record {
        arc = can.arc;
        near = can.of_the_two;
        fits = can.fits;
        valid = valid_is_known_in known m.deal x.0 x.1 can.valid;
      })

  module _ (n : MachineState) (signed : signed_hashkey answered.signed ≡ noted_if_called (signed_hashkey m.signed) o)
      (learnt : HasLearntCall (watcher answered) x.0 x.1 (watcher n)) (rest : machine_rest n ≡ machine_rest answered) where
    call : HasLearntCall (watcher m) x.0 x.1 (watcher n)
    call = subst (λ w. HasLearntCall w x.0 x.1 (watcher n)) same_watcher learnt

    n_is : n ≡ made_of m answered.signed (due_action x) call.others
    n_is = λ i. record {
      deal = (call.knows i).deal;
      me = (call.knows i).me;
      seed = (ap (λ (y : MachineState). y.seed) rest ∙ same.seed) i;
      known = (call.knows i).known;
      signed = (rest i).signed;
    }

    signs : signed_hashkey answered.signed ≡ noted (signed_hashkey m.signed) x.1
    signs = signed ∙ ap (noted_if_called (signed_hashkey m.signed)) is

    pub able_acted : IsAble n
    able_acted =
        subst IsAble (sym n_is) (able_made m answered.signed (due_action x) call.others able due same.places signs call.foreign call.legal)

    pub fewer : left m.deal m.me n.known + 1 ≤ left m.deal m.me m.known
    fewer =
        subst (λ (y : MachineState). left m.deal m.me y.known + 1 ≤ left m.deal m.me m.known) (sym n_is)
        (left_made m answered.signed (due_action x) call.others able due call.foreign call.legal)

-- The whole turn, after its looks and its acts.
pub has_acted : {A E : Type 0} (ledgers : List SharedState) (m n : MachineState) (ps qs rs : List (Option PassState)) (r : Result A E) → HaveSeenAll qs
    → IsSameElsewhere ps m.known n.known → OnOk r (IsMachineSeated ledgers n rs) → OnOk r (HaveSeenAll qs → HaveSeenAll rs)
    → OnOk r (next_due n ≡ None) → OnOk r (HasActed m ps n rs)
has_acted ledgers m n ps qs rs (Ok u) all elsewhere seated seen rests = record {
  able = seated.able;
  seen = λ a p lt e. seen_of ledgers (watcher n) rs a p seated.watching.tracks lt e;
  whole = seen all;
  rests = rests;
  elsewhere = elsewhere;
}
has_acted ledgers m n ps qs rs (Err e) all elsewhere seated seen rests = tt
