use Rattle.std.proofs.Common.{◌≡◌, ◌∙◌, List, Option, Some, None, option_map, refl, sym, ap, subst}
use Rattle.std.proofs.lemmas.Option.{same_Some}
use Rattle.party_wallet.specs.Value.{signed_hashkey}
use Rattle.hashkey_path.specs.declared.hashkey.Hashkey.{Hashkey}
use Rattle.wallet_journal.specs.declared.fault.RecordFault.{RecordFault}
use Rattle.wallet_journal.specs.declared.fault.RecordFault.TheVariants.{DiskFault}
use Rattle.party_machine.specs.Machine.{due_action}
use Rattle.party_machine.specs.Recording.{new_key, signs_next}
use Rattle.party_machine.proofs.Recorded.{answer_placed, answer_stays, answer_new, answer_signed, carried, signs, may_have, of_any}
use Rattle.party_machine.proofs.machine.Machine.next_recorded.Goals as goal

pub key_to_record-requires-clause-placed : goal.key_to_record-requires-clause-placed
key_to_record-requires-clause-placed g c =
    answer_placed c.args.self.now.signed c.args.journal.now.signed c.next.new.self.signed c.in_ok-answer.answer c.requires.recorded
    c.in_ok-answer.ensures.signed c.in_ok-answer.ensures.once c.in_ok-answer.ensures.same.places

pub returns-in_default-clause-noted : goal.returns-in_default-clause-noted
returns-in_default-clause-noted g c =
    answer_stays c.args.self.now.signed c.args.journal.now.signed c.next.new.self.signed c.in_ok-answer.answer c.requires.recorded
    c.in_ok-answer.ensures.signed c.in_ok-answer.ensures.once c.in_ok-answer.ensures.same.places None c.in_default.ensures.key refl

pub record-requires-clause-lock : goal.record-requires-clause-lock
record-requires-clause-lock g c =
    (answer_new c.args.self.now.signed c.args.journal.now.signed c.next.new.self.signed c.in_ok-answer.answer c.requires.recorded
    c.in_ok-answer.ensures.signed c.in_ok-answer.ensures.once c.in_ok-answer.ensures.same.places c.in-Some.key.now c.in-Some.ensures.key).lock

pub returns-in_err-record-clause-own : goal.returns-in_err-record-clause-own
returns-in_err-record-clause-own g c own =
    let is : new_key c.args.self.now.signed (option_map due_action c.in_ok-answer.answer) ≡ Some c.in-Some.key.now =
    ap (λ (l : List (Option Hashkey)). new_key l (option_map due_action c.in_ok-answer.answer)) (sym c.requires.recorded) ∙ sym c.in-Some.ensures.key in
    c.record.ensures.own c.args.self.now.deal (c.in_ok-answer.ensures.whole c.in-Some.key.now is).fits own

pub returns-in_err-record-clause-whole : goal.returns-in_err-record-clause-whole
returns-in_err-record-clause-whole g c =
    may_have g.D.Disk.moment g.D.Disk.left_since c.args.journal.now.disk c.record.new.self.disk (g.D.Disk.seen c.args.journal.now.disk)
    (g.D.Disk.may_leave c.args.journal.now.disk) (signs_next c.args.self.now) c.in-Some.key.now
    (signs c.args.self.now c.args.journal.now.signed c.in_ok-answer.answer (Some c.in-Some.key.now) c.requires.recorded c.in_ok-answer.ensures.due
    c.in-Some.ensures.key) c.record.ensures.whole

pub returns-in_err-record-clause-kept : goal.returns-in_err-record-clause-kept
returns-in_err-record-clause-kept g c =
    let is : signs_next c.args.self.now ≡ Some c.in-Some.key.now =
    signs c.args.self.now c.args.journal.now.signed c.in_ok-answer.answer (Some c.in-Some.key.now) c.requires.recorded c.in_ok-answer.ensures.due
    c.in-Some.ensures.key in
    let mine =
    answer_signed c.args.self.now.signed c.args.journal.now.signed c.next.new.self.signed c.in_ok-answer.answer c.requires.recorded
    c.in_ok-answer.ensures.signed c.in_ok-answer.ensures.once c.in_ok-answer.ensures.same.places c.in-Some.key.now c.in-Some.ensures.key in
    of_any {P = λ (e : RecordFault). e ≡ DiskFault → (k : Hashkey) → signs_next c.args.self.now ≡ Some k → signed_hashkey c.next.new.self.signed k.lock ≡ Some k} _
    (λ e stopped k next. subst (λ (x : Hashkey). signed_hashkey c.next.new.self.signed x.lock ≡ Some x)
    (same_Some c.in-Some.key.now k (sym is ∙ next)) mine)

pub returns-clause-noted : goal.returns-clause-noted
returns-clause-noted g c =
    c.in_ok-record.ensures.ok.1
    ∙ (answer_new c.args.self.now.signed c.args.journal.now.signed c.next.new.self.signed c.in_ok-answer.answer c.requires.recorded
    c.in_ok-answer.ensures.signed c.in_ok-answer.ensures.once c.in_ok-answer.ensures.same.places c.in-Some.key.now c.in-Some.ensures.key).gained

pub returns-clause-recorded : goal.returns-clause-recorded
returns-clause-recorded g c =
    carried (g.D.Disk.may_leave c.record.new.self.disk) c.args.journal.now.signed c.in_ok-answer.answer c.in-Some.key.now c.in-Some.ensures.key
    c.in_ok-record.ensures.recorded

pub returns-clause-own : goal.returns-clause-own
returns-clause-own g c own =
    let is : new_key c.args.self.now.signed (option_map due_action c.in_ok-answer.answer) ≡ Some c.in-Some.key.now =
    ap (λ (l : List (Option Hashkey)). new_key l (option_map due_action c.in_ok-answer.answer)) (sym c.requires.recorded) ∙ sym c.in-Some.ensures.key in
    c.record.ensures.own c.args.self.now.deal (c.in_ok-answer.ensures.whole c.in-Some.key.now is).fits own

pub returns-clause-whole : goal.returns-clause-whole
returns-clause-whole g c =
    may_have g.D.Disk.moment g.D.Disk.left_since c.args.journal.now.disk c.record.new.self.disk (g.D.Disk.seen c.args.journal.now.disk)
    (g.D.Disk.may_leave c.args.journal.now.disk) (signs_next c.args.self.now) c.in-Some.key.now
    (signs c.args.self.now c.args.journal.now.signed c.in_ok-answer.answer (Some c.in-Some.key.now) c.requires.recorded c.in_ok-answer.ensures.due
    c.in-Some.ensures.key) c.record.ensures.whole
