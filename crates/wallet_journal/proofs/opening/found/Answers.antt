use Rattle.std.proofs.Common.{◌≡◌, ℕ, length, map, List, sym, ◌∙◌, ap, subst, arith}
use Rattle.std.specs.List.{range_with_len}
use Rattle.std.proofs.lemmas.List.{length-take-le}
use Rattle.wallet_journal.specs.Layout.{is_made, recorded}
use Rattle.wallet_journal.specs.Opening.{IsPartyJournal}
use Rattle.wallet_journal.proofs.Finds.{both_ok, head_of_deal, head_foreign, not_there, found_kept, found_opened, damage_fault, fit_of}
use Rattle.wallet_journal.proofs.Stays.{untouched_still}
use Rattle.wallet_journal.proofs.opening.found.Goals as goal

pub head_matches-requires : goal.head_matches-requires
head_matches-requires g c = ap length c.requires.head ∙ length-take-le 42 (g.D.Disk.seen c.args.disk.now) (omega (arith, c.requires.still.sized))

pub returns-then-not-head_matches-clause-fault : goal.returns-then-not-head_matches-clause-fault
returns-then-not-head_matches-clause-fault g c = (
  c.requires.made,
  head_foreign (g.D.Disk.seen c.args.disk.now) c.args.head.now c.requires.head c.args.deal.now c.args.me
      (not_there c.head_matches.result c.head_matches.ensures c.if-not-head_matches.true),
)

pub returns-clause-kept : goal.returns-clause-kept
returns-clause-kept g c =
    let d = c.args.deal.now in
    let old = g.D.Disk.seen c.args.disk.now in
    let new = g.D.Disk.seen c.read_whole.new.disk in
    let same : new ≡ old = c.read_whole.ensures.same in
    let there : c.deref.result.now ≡ new = c.deref.ensures.value ∙ c.in_ok-bytes.ensures.bytes ∙ sym same in
    let own : IsPartyJournal d c.args.me old = head_of_deal old c.args.head.now c.requires.head d c.args.me (c.head_matches.ensures.0 c.if-not-head_matches.false) in
    both_ok c.sound_keys.result _ _ _ c.sound_keys.ensures.value c.sound_keys.ensures.sound (λ s is sound.
    found_kept d c.args.me new (g.D.Disk.may_leave c.read_whole.new.disk) (g.D.Disk.loose c.read_whole.new.disk) s c.read_whole.ensures.still
    (ap is_made same ∙ c.requires.made)
    (fit_of d c.args.me c.deref.result.now new there (subst (IsPartyJournal d c.args.me) (sym same) own) sound) c.requires.sized.leaders.1
    (is ∙ ap (λ (b : List ℕ). map (recorded b) (range_with_len 0 (length d.leaders))) there))

pub returns-clause-shown : goal.returns-clause-shown
returns-clause-shown g c =
    let d = c.args.deal.now in
    let old = g.D.Disk.seen c.args.disk.now in
    let there : c.deref.result.now ≡ old = c.deref.ensures.value ∙ c.in_ok-bytes.ensures.bytes in
    let own : IsPartyJournal d c.args.me old = head_of_deal old c.args.head.now c.requires.head d c.args.me (c.head_matches.ensures.0 c.if-not-head_matches.false) in
    both_ok c.sound_keys.result _ _ _ c.sound_keys.ensures.value c.sound_keys.ensures.sound (λ s is sound.
    found_opened d c.args.me old s (fit_of d c.args.me c.deref.result.now old there own sound)
    (is ∙ ap (λ (b : List ℕ). map (recorded b) (range_with_len 0 (length d.leaders))) there))

pub returns-clause-fault : goal.returns-clause-fault
returns-clause-fault g c =
    let d = c.args.deal.now in
    let old = g.D.Disk.seen c.args.disk.now in
    let own : IsPartyJournal d c.args.me old = head_of_deal old c.args.head.now c.requires.head d c.args.me (c.head_matches.ensures.0 c.if-not-head_matches.false) in
    damage_fault d c.args.me c.deref.result.now old (g.D.Disk.faults c.args.disk.now) (g.D.Disk.faults c.read_whole.new.disk) c.sound_keys.result
    (c.deref.ensures.value ∙ c.in_ok-bytes.ensures.bytes) c.requires.made own c.sound_keys.ensures.fault

pub returns-clause-untouched : goal.returns-clause-untouched
returns-clause-untouched g c =
    untouched_still (g.D.Disk.seen c.args.disk.now) (g.D.Disk.seen c.read_whole.new.disk) (g.D.Disk.may_leave c.args.disk.now)
    (g.D.Disk.may_leave c.read_whole.new.disk) (g.D.Disk.loose c.args.disk.now) (g.D.Disk.loose c.read_whole.new.disk) c.requires.still
    c.read_whole.ensures.still c.read_whole.ensures.same

pub returns-in_err-bytes-clause-untouched : goal.returns-in_err-bytes-clause-untouched
returns-in_err-bytes-clause-untouched g c =
    untouched_still (g.D.Disk.seen c.args.disk.now) (g.D.Disk.seen c.read_whole.new.disk) (g.D.Disk.may_leave c.args.disk.now)
    (g.D.Disk.may_leave c.read_whole.new.disk) (g.D.Disk.loose c.args.disk.now) (g.D.Disk.loose c.read_whole.new.disk) c.requires.still
    c.read_whole.ensures.still c.read_whole.ensures.same
