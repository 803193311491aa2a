-- A world before any event.
use Rattle.std.proofs.Common.{◌≡◌, ◌<◌, ℕ, Bool, false, List, [], ◌∷◌, refl, length, map, get_or, replicate, Option, None, sym, ap, ap₂}
use Rattle.std.proofs.Common.{◌∙◌, subst}
use Rattle.std.specs.List.{All}
use Rattle.std.proofs.lemmas.List.Elements.{All-get_or}
use Rattle.std.proofs.lemmas.List.{get_or-map, get_or-replicate, length-map}
use Rattle.swap_digraph.specs.declared.deal.Deal.{Deal}
use Rattle.hashkey_path.specs.declared.hashkey.Hashkey.{Hashkey}
use Rattle.ledger_core.specs.Value.{LedgerState}
use Rattle.ledger_core.specs.Book.{Histories}
use Rattle.swap_job.specs.declared.job.Job.{Job}
use Rattle.swap_job.specs.declared.job.Role.{Role}
use Rattle.swap_job.specs.declared.job.Role.TheVariants as kinds
use Rattle.swap_rules.specs.Accepted.{IsAccepted}
use Rattle.swap_run.specs.Run.{Cast, Notes, Plan, State, first_plan, no_notes, start}
use Rattle.swap_run.specs.Laws.{IsReadyCast, IsGood}
use Rattle.swap_run.proofs.Good.{start_is_good}
use Rattle.swap_world.specs.Cast.{made_cast, job_cast}
use Rattle.swap_world.specs.Value.{new_world}
use Rattle.swap_world.specs.Actors.{team, AllFit, HaveRoles, ConformingHaveSeeds}
use Rattle.swap_world.specs.Acting.{histories}
use Rattle.swap_world.specs.Journals.{AreJournaled, HasNewJournal, IsJournaled, IsMachineJournal}
use Rattle.swap_world.specs.Inside.{actor_notes, actor_plan, AreNewLedgers, HaveRoom, AreArcLedgers, IsPartyActor, ArePartyActors}
use Rattle.swap_world.specs.Players.{Actor, without_journal}
use Rattle.swap_world.specs.declared.player.Player.TheVariants.{Conforming, Planned, Manual}
use Rattle.swap_world.proofs.Rooms.{new_histories, new_ledgers_of, new_room}
use Rattle.swap_world.proofs.States.{state}
use Rattle.swap_world.proofs.Team.{are_actors, no_notes_yet, first_plans, is_ready}
use Rattle.swap_world.proofs.Worlds.{world}
use Rattle.swap_job.specs.Crafted.{Seeds}

-- Where a journal is put aside.

bare_notes : (d : Deal) (ys : List Actor) → map (actor_notes d) ys ≡ map (actor_notes d) (map without_journal ys)
bare_notes d [] = refl
bare_notes d (Conforming m j ∷ ys) = ap (λ (ns : List Notes). actor_notes d (Conforming m j) ∷ ns) (bare_notes d ys)
bare_notes d (Planned n ∷ ys) = ap (λ (ns : List Notes). no_notes d ∷ ns) (bare_notes d ys)
bare_notes d (Manual ∷ ys) = ap (λ (ns : List Notes). no_notes d ∷ ns) (bare_notes d ys)

bare_plans : (d : Deal) (ys : List Actor) → map (actor_plan d) ys ≡ map (actor_plan d) (map without_journal ys)
bare_plans d [] = refl
bare_plans d (Conforming m j ∷ ys) = ap (λ (ps : List Plan). actor_plan d (Conforming m j) ∷ ps) (bare_plans d ys)
bare_plans d (Planned n ∷ ys) = ap (λ (ps : List Plan). n ∷ ps) (bare_plans d ys)
bare_plans d (Manual ∷ ys) = ap (λ (ps : List Plan). first_plan d kinds.Manual ∷ ps) (bare_plans d ys)

bare_is : (d : Deal) (conforms : Bool) (seed : Option (List ℕ)) (role : Role) (v : ℕ) (x : Actor)
    → IsPartyActor d conforms seed role v (without_journal x) → IsPartyActor d conforms seed role v x
bare_is d conforms seed role v (Conforming m j) is = is
bare_is d conforms seed role v (Planned n) is = is
bare_is d conforms seed role v Manual is = is

bare_actors : (d : Deal) (conforming : List Bool) (seeds : Seeds) (roles : List Role) (ys : List Actor)
    → ArePartyActors d conforming seeds roles (map without_journal ys) → ArePartyActors d conforming seeds roles ys
bare_actors d conforming seeds roles ys k = record {
  one_each = sym (length-map ys without_journal) ∙ k.one_each;
  each = λ v x lt here. bare_is d _ _ _ v x (k.each v (without_journal x) (subst (λ n. v < n) (sym (length-map ys without_journal)) lt)
      (ap without_journal here ∙ sym (get_or-map without_journal ys v x (without_journal x) lt)));
}

module _ (job : Job) (d : Deal) (conforming : List Bool) (seeds : Seeds) (roles : List Role) (ls : List LedgerState) (ys : List Actor) (ed : d ≡ job.deal)
    (ec : conforming ≡ job.conforming) (es : seeds ≡ job.seeds) (er : roles ≡ job.roles)
    (el : AreNewLedgers job.deal (length job.deal.graph.arcs) ls) (ea : map without_journal ys ≡ team job) (have : ConformingHaveSeeds job) (act : HaveRoles job) (fit : AllFit job)
  where
    abbrev parts : Histories → List Notes → List Plan → State
    parts b ns ps = record { book = b; notes = ns; plans = ps; asked = [] }

    noted_none : map (actor_notes job.deal) ys ≡ replicate job.deal.graph.n (no_notes job.deal)
    noted_none = bare_notes job.deal ys ∙ (ap (map (actor_notes job.deal)) ea ∙ no_notes_yet job have act fit)

    planned_first : map (actor_plan job.deal) ys ≡ map (first_plan job.deal) job.roles
    planned_first = bare_plans job.deal ys ∙ (ap (map (actor_plan job.deal)) ea ∙ first_plans job have act fit)

    state_is : state d [] ys (histories ls) ≡ start (job_cast job)
    state_is =
        ap (λ (e : Deal). state e [] ys (histories ls)) ed
        ∙ (ap₂ (λ (b : Histories) (ns : List Notes). parts b ns (map (actor_plan job.deal) ys)) (new_histories job.deal ls el) noted_none
        ∙ ap (λ (ps : List Plan). record (start (job_cast job)) { plans = ps }) planned_first)

    pub world_is : world d conforming seeds roles [] false (state d [] ys (histories ls)) ≡ new_world job
    world_is =
        ap (λ (e : Deal). world e conforming seeds roles [] false (state d [] ys (histories ls))) ed
        ∙ (ap₂ (λ (c : List Bool) (s : Seeds). world job.deal c s roles [] false (state d [] ys (histories ls))) ec es
        ∙ ap₂ (λ (rs : List Role) (st : State). world job.deal job.conforming job.seeds rs [] false st) er state_is)

    cast_is : made_cast d conforming seeds roles ≡ job_cast job
    cast_is =
        ap₂ (λ (e : Deal) (rs : List Role). made_cast e conforming seeds rs) ed er
        ∙ ap₂ (λ (c : List Bool) (s : Seeds). made_cast job.deal c s job.roles) ec es

    pub ready : IsAccepted job.deal → IsReadyCast (made_cast d conforming seeds roles)
    ready accepted = subst IsReadyCast (sym cast_is) (is_ready job accepted have act fit)

    its : ArePartyActors job.deal job.conforming job.seeds job.roles ys
    its = bare_actors job.deal job.conforming job.seeds job.roles ys (rw ea (are_actors job have act fit))

    pub actors : ArePartyActors d conforming seeds roles ys
    actors = rw (ed, ec, es, er) its

    pub ledgers : AreArcLedgers d ls
    ledgers = new_ledgers_of job.deal d ls ed el

    pub room : HaveRoom ls
    room = new_room job.deal (length job.deal.graph.arcs) ls el

    pub good : IsAccepted job.deal → IsGood (made_cast d conforming seeds roles) (state d [] ys (histories ls))
    good accepted =
        subst (λ (c : Cast). IsGood c (state d [] ys (histories ls))) (sym cast_is)
        (subst (IsGood (job_cast job)) (sym state_is) (start_is_good (job_cast job) (is_ready job accepted have act fit)))

    -- what nothing was signed for yet
    pub journals : All (HasNewJournal job.deal) ys → AreJournaled d ys
    journals k = subst (λ (e : Deal). AreJournaled e ys) (sym ed) fresh
      where
        none : Notes
        none = record { known = []; signed = [] }

        by : (v : ℕ) (x : Actor) → v < length ys → x ≡ get_or ys v x → HasNewJournal job.deal x → IsJournaled job.deal v x
        by v (Conforming m j) lt here k =
            let signed : m.signed ≡ replicate (length job.deal.leaders) None =
            ap (λ (x : Notes). x.signed) (ap (actor_notes job.deal) here ∙ sym (get_or-map (actor_notes job.deal) ys v (Conforming m j) none lt)
            ∙ ap (λ (ns : List Notes). get_or ns v none) noted_none
            ∙ get_or-replicate job.deal.graph.n v (no_notes job.deal) none (subst (λ n. v < n) its.one_each lt)) in
            subst (λ (s : List (Option Hashkey)). IsMachineJournal job.deal v s j) (sym signed)
            (subst (λ u. IsMachineJournal job.deal u (replicate (length job.deal.leaders) None) j) (its.each v (Conforming m j) lt here).2 k)
        by v (Planned n) lt here k = tt
        by v Manual lt here k = tt

        fresh : AreJournaled job.deal ys
        fresh v x lt here = by v x lt here (subst (HasNewJournal job.deal) (sym here) (All-get_or (HasNewJournal job.deal) ys v x lt k))
