use Rattle.std.proofs.Common.{◌≡◌, ◌∙◌, ℕ, not, Some, List, refl, sym, ap, ap₂, subst}
use Rattle.hashkey_path.specs.declared.hashkey.Hashkey.{Hashkey}
use Rattle.ledger_core.specs.declared.entry.Call.TheVariants.{Unlock}
use Rattle.swap_rules.specs.Rest.{rest_deadline}
use Rattle.swap_rules.specs.Machine.{noted}
use Rattle.party_wallet.specs.Value.{signed_hashkey}
use Rattle.history_index.specs.Value.{IndexState}
use Rattle.party_machine.specs.Machine.{MachineState, next_due}
use Rattle.party_machine.specs.Within.{all_entries}
use Rattle.party_machine.specs.Unlocking.{due_hashkey}
use Rattle.party_machine.specs.Recording.{unsigned_key, IsWholeKey}
use Rattle.party_machine.proofs.Next.{at_once}
use Rattle.party_machine.proofs.Step.{answered_ready, publishes, first_unlock, from_some, seen_by, unlocks, unlocks_next, settles_next, noted_as}
use Rattle.party_machine.proofs.Resting.{awake, begins, shown}
use Rattle.party_machine.proofs.Whole.{due_whole, none_whole}
use Rattle.party_machine.proofs.machine.Machine.next.Goals as goal
use Rattle.party_machine.proofs.machine.Machine.next.Goals.{then-is_none, else-is_none}

pub returns-then-is_some-clause-due : goal.returns-then-is_some-clause-due
returns-then-is_some-clause-due c =
    let i = c.self.inside in
    let e =
    publishes i.deal i.wallet i.known.items c.self.invariant.ready c.party-me.result c.deref.result.now c.in_ok-first.first c.party-me.ensures
    c.deref.ensures.value c.in_ok-first.ensures.first in
    at_once (record {
      deal = i.deal;
      me = i.wallet.party;
      seed = i.wallet.seed;
      known = all_entries i.known.items;
      signed =
          i.wallet.signed;
    }) c.in_ok-first.first e (sym c.is_some.ensures ∙ c.if-is_some.true)
    ∙ ap next_due c.self.view_is

pub returns-then-is_some-clause-signed : goal.returns-then-is_some-clause-signed
returns-then-is_some-clause-signed c = sym (c.in_ok-first.ensures.no_key (signed_hashkey c.args.self.now.signed))

pub chosen_hashkey-requires-clause-from : goal.chosen_hashkey-requires-clause-from
chosen_hashkey-requires-clause-from c =
    let i = c.self.inside in
    from_some i.deal i.wallet i.known.items c.self.invariant.ready c.in-Some.due c.deref-in-Some.result.now c.deref-in-Some.ensures.value
    (first_unlock i.deal i.wallet i.known.items c.self.invariant.ready c.party-me.result c.deref-2.result.now c.signed.result.now.keys c.in-Some.due
    c.party-me.ensures c.deref-2.ensures.value c.signed.ensures c.in-Some.ensures.some)

pub invariant_of-self-in-Some : goal.invariant_of-self-in-Some
invariant_of-self-in-Some c =
    let i = c.self.inside in
    let seen =
    seen_by i.deal i.wallet i.known.items c.self.invariant.ready c.party-me.result c.deref-2.result.now c.in-Some.due c.party-me.ensures
    c.deref-2.ensures.value c.in-Some.ensures.base in
    record {
      ready =
          answered_ready i.deal i.wallet i.known.items c.self.invariant.ready c.in-Some.due c.chosen_hashkey.result c.chosen_hashkey.new.wallet
          c.deref-in-Some.result.now c.deref-in-Some.ensures.value c.in-Some.ensures.lock seen c.chosen_hashkey.ensures.value c.chosen_hashkey.ensures.kept
          c.chosen_hashkey.ensures.err;
      rests = awake i.rest (shown i.deal c.chosen_hashkey.new.wallet i.known.items) c.in-Awake.is;
    }

pub returns-in-Some-clause-due : goal.returns-in-Some-clause-due
returns-in-Some-clause-due c =
    let i = c.self.inside in
    let e =
    publishes i.deal i.wallet i.known.items c.self.invariant.ready c.party-me.result c.deref.result.now c.in_ok-first.first c.party-me.ensures
    c.deref.ensures.value c.in_ok-first.ensures.first in
    let seen =
    seen_by i.deal i.wallet i.known.items c.self.invariant.ready c.party-me.result c.deref-2.result.now c.in-Some.due c.party-me.ensures
    c.deref-2.ensures.value c.in-Some.ensures.base in
    let f =
    first_unlock i.deal i.wallet i.known.items c.self.invariant.ready c.party-me.result c.deref-2.result.now c.signed.result.now.keys c.in-Some.due
    c.party-me.ensures c.deref-2.ensures.value c.signed.ensures c.in-Some.ensures.some in
    let value : due_hashkey i.deal i.wallet (all_entries i.known.items) c.in-Some.due ≡ Some c.in_ok-key-in-Some.key =
    subst (λ (ys : List IndexState). due_hashkey i.deal i.wallet (all_entries ys) c.in-Some.due ≡ Some c.in_ok-key-in-Some.key)
    c.deref-in-Some.ensures.value c.in_ok-key-in-Some.ensures.value in
    unlocks_next i.deal i.wallet i.known.items c.self.invariant.ready c.in_ok-first.first c.in-Some.due c.in_ok-key-in-Some.key e (sym c.is_some.ensures
    ∙ c.if-is_some.false)
    (unlocks i.deal i.wallet i.known.items c.self.invariant.ready c.in-Some.due c.in_ok-key-in-Some.key seen f value)
    ∙ ap next_due c.self.view_is

pub returns-in-Some-clause-signed : goal.returns-in-Some-clause-signed
returns-in-Some-clause-signed c =
    let i = c.self.inside in
    let seen =
    seen_by i.deal i.wallet i.known.items c.self.invariant.ready c.party-me.result c.deref-2.result.now c.in-Some.due c.party-me.ensures
    c.deref-2.ensures.value c.in-Some.ensures.base in
    let value : due_hashkey i.deal i.wallet (all_entries i.known.items) c.in-Some.due ≡ Some c.in_ok-key-in-Some.key =
    subst (λ (ys : List IndexState). due_hashkey i.deal i.wallet (all_entries ys) c.in-Some.due ≡ Some c.in_ok-key-in-Some.key)
    c.deref-in-Some.ensures.value c.in_ok-key-in-Some.ensures.value in
    noted_as i.deal i.wallet i.known.items c.self.invariant.ready c.in-Some.due c.in_ok-key-in-Some.key c.chosen_hashkey.new.wallet c.in-Some.ensures.lock
    seen value c.in_ok-key-in-Some.ensures.kept
    ∙ ap (λ (s : MachineState). noted (signed_hashkey s.signed) (Unlock c.in_ok-key-in-Some.key)) c.self.view_is

pub invariant_of-self-then-is_none : goal.invariant_of-self-then-is_none
invariant_of-self-then-is_none c =
    let i = c.self.inside in
    let e =
    publishes i.deal i.wallet i.known.items c.self.invariant.ready c.party-me.result c.deref.result.now c.in_ok-first.first c.party-me.ensures
    c.deref.ensures.value c.in_ok-first.ensures.first in
    let last = settles_next i.deal i.wallet i.known.items c.self.invariant.ready c.party-me.result c.deref-2.result.now c.deref-in-None.result.now
    c.signed.result.now.keys c.in_ok-first.first c.due_last-last.result c.party-me.ensures c.deref-2.ensures.value c.deref-in-None.ensures.value
    c.signed.ensures e (sym c.is_some.ensures ∙ c.if-is_some.false) (c.in-None.ensures.none refl) c.due_last-last.ensures.first in
    record {
      ready = c.self.invariant.ready;
      rests = begins (shown i.deal i.wallet i.known.items) c.due_last-last.result c.rest_deadline.result last (c.is_none.ensures ∙ ap not c.if-is_none.true)
          (c.rest_deadline.ensures ∙ ap₂ (λ (v : ℕ) (ys : List IndexState).
          rest_deadline i.deal v (all_entries ys)) c.party-me.ensures c.deref-then-is_none.ensures.value);
    }

pub returns-clause-due : goal.returns-clause-due
returns-clause-due c =
    let i = c.self.inside in
    let e =
    publishes i.deal i.wallet i.known.items c.self.invariant.ready c.party-me.result c.deref.result.now c.in_ok-first.first c.party-me.ensures
    c.deref.ensures.value c.in_ok-first.ensures.first in
    settles_next i.deal i.wallet i.known.items c.self.invariant.ready c.party-me.result c.deref-2.result.now c.deref-in-None.result.now
    c.signed.result.now.keys c.in_ok-first.first c.due_last-last.result c.party-me.ensures c.deref-2.ensures.value c.deref-in-None.ensures.value
    c.signed.ensures e (sym c.is_some.ensures ∙ c.if-is_some.false) (c.in-None.ensures.none refl) c.due_last-last.ensures.first
    ∙ ap next_due c.self.view_is

pub returns-clause-signed : goal.returns-clause-signed
returns-clause-signed c =
    let kept : c.if-is_none.self ≡ c.args.self.now = elim c.if-is_none.branch [ then-is_none w ↦ w.self-is ∙ c.self.view_is | else-is_none w ↦ w.self-is ] in
    ap (λ (s : MachineState). signed_hashkey s.signed) kept ∙ sym (c.due_last-last.ensures.no_key (signed_hashkey c.args.self.now.signed))

pub returns-then-is_some-clause-whole : goal.returns-then-is_some-clause-whole
returns-then-is_some-clause-whole c =
    none_whole c.args.self.now.signed c.args.self.now.deal c.in_ok-first.first c.in_ok-first.ensures.no_key

pub returns-in-Some-clause-whole : goal.returns-in-Some-clause-whole
returns-in-Some-clause-whole c =
    let i = c.self.inside in
    let seen =
    seen_by i.deal i.wallet i.known.items c.self.invariant.ready c.party-me.result c.deref-2.result.now c.in-Some.due c.party-me.ensures
    c.deref-2.ensures.value c.in-Some.ensures.base in
    let value : due_hashkey i.deal i.wallet (all_entries i.known.items) c.in-Some.due ≡ Some c.in_ok-key-in-Some.key =
    subst (λ (ys : List IndexState). due_hashkey i.deal i.wallet (all_entries ys) c.in-Some.due ≡ Some c.in_ok-key-in-Some.key)
    c.deref-in-Some.ensures.value c.in_ok-key-in-Some.ensures.value in
    subst (λ (s : MachineState). (k : Hashkey) → unsigned_key s.signed (Unlock c.in_ok-key-in-Some.key) ≡ Some k → IsWholeKey s.deal k)
    c.self.view_is
    (due_whole i.deal i.wallet i.known.items c.self.invariant.ready c.in-Some.due c.in_ok-key-in-Some.key seen value)

pub returns-clause-whole : goal.returns-clause-whole
returns-clause-whole c = none_whole c.args.self.now.signed c.args.self.now.deal c.due_last-last.result c.due_last-last.ensures.no_key
