-- A run on disks whose crashes leave anything that disks may leave is a run.
use Rattle.std.proofs.Common.{◌≡◌, ℕ, ◌<◌, Bool, true, false, cond, List, [], ◌∷◌, ◌++◌, refl, sym, ◌∙◌, ap}
use Rattle.std.proofs.lemmas.List.Elements.{All-nil, All-cons, All-append}
use Rattle.std.proofs.lemmas.List.Sums.{fold-append}
use Rattle.swap_job.specs.declared.event.Event.{Event}
use Rattle.swap_job.specs.declared.event.Event.TheVariants.{Tick, Look, Act, Call as Calls, Crash}
use Rattle.swap_job.specs.Step.{CanStep}
use Rattle.swap_rules.proofs.Growth.{Grows}
use Rattle.swap_run.specs.Run.{Cast, State, conforms, next_action, step, start}
use Rattle.swap_run.specs.Laws.{IsReadyCast}
use Rattle.disk_laws.specs.DiskRun.{StateOnDisks, act_on_disk, restart_from, step_beside_disks, step_on_disks, start_on_disks}
use Rattle.disk_laws.specs.Laws.{TookWhole, SignsWhole}
use Rattle.disk_laws.specs.AnyRun.{Happening, Comes, Crashes, CanHappen, CanAllHappen, happens, after_all, IsOfRun, AnyCrashesAreRuns}
use Rattle.disk_laws.proofs.Grown.{grows_refl, grows_trans, step_grows, make_grows, took_before}
use Rattle.disk_laws.proofs.DiskRuns.{KeepsDisks, a_step, any_crash, any_step, started}

-- Histories grow.

on_disks_grows : (c : Cast) (t : StateOnDisks) (e : Event) → Grows t.state.book (step_on_disks c t e).state.book
on_disks_grows c t (Tick a k) = step_grows c t.state (Tick a k)
on_disks_grows c t (Look v a) = step_grows c t.state (Look v a)
on_disks_grows c t (Act v) = go (conforms c v)
  where
    go : (b : Bool) → Grows t.state.book (cond b (act_on_disk c t v) (step_beside_disks c t (Act v))).state.book
    go true = make_grows c t.state v (next_action c t.state v)
    go false = step_grows c t.state (Act v)
on_disks_grows c t (Calls v mv) = step_grows c t.state (Calls v mv)
on_disks_grows c t (Crash v k image) = grows_refl t.state.book

happens_grows : (c : Cast) (t : StateOnDisks) (x : Happening) → Grows t.state.book (happens c t x).state.book
happens_grows c t (Comes e) = on_disks_grows c t e
happens_grows c t (Crashes v n bytes) = grows_refl t.state.book

all_grows : (c : Cast) (t : StateOnDisks) (xs : List Happening) → Grows t.state.book (after_all c t xs).state.book
all_grows c t [] = grows_refl t.state.book
all_grows c t (x ∷ xs) =
    grows_trans t.state.book (happens c t x).state.book (after_all c (happens c t x) xs).state.book (happens_grows c t x) (all_grows c (happens c t x) xs)

-- one event more
one_more : (c : Cast) (s t : State) (e : Event) → IsOfRun c s → CanStep c.deal c.conforming c.seeds e → t ≡ step c s e → IsOfRun c t
one_more c s t e r can same = record {
  events = r.events ++ e ∷ [];
  can = All-append (CanStep c.deal c.conforming c.seeds) r.events (e ∷ []) r.can
      (All-cons (CanStep c.deal c.conforming c.seeds) e [] can (All-nil (CanStep c.deal c.conforming c.seeds)));
  same = same ∙ ap (λ (u : State). step c u e) r.same ∙ sym (fold-append (step c) (start c) r.events (e ∷ []));
}

record Goes (c : Cast) (t : StateOnDisks) : Type 0 where
  keep : KeepsDisks c t
  run : IsOfRun c t.state

goes : (c : Cast) (t : StateOnDisks) (x : Happening) → IsReadyCast c → ((v : ℕ) → v < c.deal.graph.n → conforms c v ≡ true → SignsWhole (c.wallet v))
    → TookWhole t.state.book → CanHappen c t x → Goes c t → Goes c (happens c t x)
goes c t (Comes e) ready signs took can g =
    let s = a_step c t e ready signs took can g.keep in
    record { keep = s.keep; run = one_more c t.state (step_on_disks c t e).state e g.run can s.same }
goes c t (Crashes v n bytes) ready signs took can g =
    let x = any_crash c t ready g.keep took v can.known can.conforms (signs v can.known can.conforms) n bytes can.few can.left in
    record {
      keep = any_step c t v n bytes ready (signs v can.known can.conforms) took can g.keep;
      run = one_more c t.state (restart_from c t.state v bytes) (Crash v x.k x.image) g.run
          (record { known = can.known; conforms = can.conforms; few = x.few }) x.same;
    }

all_go : (c : Cast) (xs : List Happening) (t : StateOnDisks) → IsReadyCast c → ((v : ℕ) → v < c.deal.graph.n → conforms c v ≡ true → SignsWhole (c.wallet v))
    → TookWhole (after_all c t xs).state.book → CanAllHappen c t xs → Goes c t → Goes c (after_all c t xs)
all_go c [] t ready signs took can g = g
all_go c (x ∷ xs) t ready signs took can g =
    let before = took_before t.state.book (after_all c t (x ∷ xs)).state.book (all_grows c t (x ∷ xs)) took in
    all_go c xs (happens c t x) ready signs took can.1 (goes c t x ready signs before can.0 g)

pub any_crashes_are_runs : AnyCrashesAreRuns
any_crashes_are_runs c xs can all =
    (all_go c xs (start_on_disks c) can.ready can.signs can.took all (record {
      keep = started c can.ready;
      run = record { events = []; can = All-nil (CanStep c.deal c.conforming c.seeds); same = refl };
    })).run
