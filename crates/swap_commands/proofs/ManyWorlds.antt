-- The worlds of several swaps before any event and after some: whose they are, and that all is
-- ready.
use Rattle.std.proofs.Common.{◌≡◌, ◌<◌, ◌≤◌, ℕ, zero, suc, ◌+◌, Bool, true, false, cond, List, [], ◌∷◌, ◌++◌, length, map, take, drop, refl}
use Rattle.std.proofs.Common.{sym, ap, ◌∙◌, subst, Result, Ok, Err, Option, Some, None, slice_index_or, nat_lt, arith}
use Rattle.std.specs.List.{All, range_with_len}
use Rattle.std.proofs.lemmas.List.{length-append, length-map}
use Rattle.std.proofs.lemmas.List.Elements.{All-weaker}
use Rattle.swap_base.specs.Fault.{◌>>=◌, Fails}
use Rattle.swap_base.specs.declared.fault.Fault.{Fault}
use Rattle.swap_base.specs.declared.fault.Fault.TheVariants as offer
use Rattle.swap_base.specs.Lists.{IsElement}
use Rattle.swap_base.proofs.Lists.{first_at, from_range, in_from_moment}
use Rattle.command_input.specs.declared.refusal.Refusal.{Refusal}
use Rattle.swap_job.specs.declared.job.Job.{Job}
use Rattle.swap_job.specs.declared.job.Purpose.TheVariants.{Run}
use Rattle.party_wallet.specs.Value.{WalletState}
use Rattle.swap_offer.specs.Wallets.{prepared_wallets}
use Rattle.swap_run.specs.Asked.{Answers, with_answers}
use Rattle.swap_run.specs.Run.{Cast}
use Rattle.swap_run.specs.Laws.{IsReadyCast}
use Rattle.swap_world.specs.Cast.{job_cast}
use Rattle.swap_world.specs.Gone.{MayGive}
use Rattle.swap_world.specs.Actors.{AreHeld}
use Rattle.swap_world.specs.Value.{WorldState, world_cast, new_world}
use Rattle.swap_world.proofs.Team.{is_ready}
use Rattle.swap_many.specs.declared.many_event.ManyEvent.{ManyEvent}
use Rattle.swap_many.specs.declared.overdrawn.Overdrawn.{Overdrawn}
use Rattle.swap_many.specs.declared.place.Place.{Place}
use Rattle.swap_many.specs.Chains.{Setup, opening_units, set_aside}
use Rattle.swap_many.specs.Kept.{kept_start}
use Rattle.swap_many.specs.Laws.{CanCome, IsReadySetup}
use Rattle.swap_many.specs.Opened.{account_lack, chain_lack, overdrawn}
use Rattle.swap_many.specs.Opening.{AreOpenable, opened_swaps, setup_of_worlds}
use Rattle.swap_many.specs.Ticking.{nth}
use Rattle.swap_many.specs.Value.{AreAllHeld, AreSame, ManyState, many_kept, world_setup, nth_world}
use Rattle.swap_many.proofs.Accounts.{any_default}
use Rattle.swap_many.proofs.Begun.{map_next, was_opened, was_refused}
use Rattle.swap_many.proofs.Opened.{no_lack_is_covered}
use Rattle.swap_many.proofs.Starting.{kept_is}
use Rattle.swap_many.proofs.Values.{same_setup}
use Rattle.many_lines.specs.Heading.{nothing_headed}
use Rattle.many_lines.specs.Places.{job_of_swap, no_job, find_places}
use Rattle.many_lines.specs.Setup.{MayCome, setup_with_answers}
use Rattle.many_lines.specs.Whole.{AreBoundedChains, ArePlaced, AreSwaps, HoldsEverySwap, IsSwap}
use Rattle.many_lines.specs.declared.many_job.ManyJob.{ManyJob}
use Rattle.many_text.specs.Shown.{AreChainsShown, AreShown}
use Rattle.swap_commands.specs.Many.{opened_places, unless_lacking}
use Rattle.swap_commands.specs.ManyRead.{AreSwapWorlds, IsLack, AreOpenedWorlds, new_worlds}
use Rattle.swap_commands.proofs.Acting.{have_roles}
use Rattle.swap_commands.proofs.Raced.{have_seeds}
use Rattle.swap_commands.proofs.Replays.{held, wallets_fit}

-- Whose worlds they are.

-- the world of swap s before any event
pub new_at : (jobs : List Job) (s : ℕ) → nth (map new_world jobs) s ≡ new_world (job_of_swap jobs s)
new_at [] s = refl
new_at (job ∷ jobs) zero = refl
new_at (job ∷ jobs) (suc s) = new_at jobs s

pub new_are_of : (many : ManyJob) (places : List (List Place)) → AreSwapWorlds many (new_worlds many places)
new_are_of many places g = λ j. record {
  swaps = length-map many.jobs new_world j;
  cast = λ s. with_answers (world_cast (new_at many.jobs s j)) (g s);
  places = places;
  chains = many.units;
}

pub still_of : (gives : MayGive) (many : ManyJob) (old new : ManyState) → AreSame gives old new → AreSwapWorlds many old → AreSwapWorlds many new
still_of gives many old new k of g =
    same_setup gives old new g k ∙ (of g ∙ sym (ap (λ (ps : List (List Place)). setup_with_answers g many ps) k.places))

-- what may come of the swaps can come in their worlds
pub can_of : (many : ManyJob) (w : ManyState) (e : ManyEvent) → AreSwapWorlds many w → MayCome many e → CanCome (world_setup w) e
can_of many w e of may = subst (λ (m : Setup). CanCome m e) (sym (of (λ s k. None))) (may (λ s k. None) w.places)

pub all_can : (many : ManyJob) (g : ℕ → Answers) (places : List (List Place)) (events : List ManyEvent) → All (MayCome many) events
    → All (CanCome (setup_with_answers g many places)) events
all_can many g places events may = All-weaker (MayCome many) (CanCome (setup_with_answers g many places)) (λ e m. m g places) events may

-- the strategies of each swap are held in its world
pub all_held : (has : List ℕ → Bool) (many : ManyJob) (places : List (List Place)) → HoldsEverySwap has many → AreAllHeld has (new_worlds many places)
all_held has many places holds s l =
    subst (λ (w : WorldState). AreHeld has w.roles) (sym (new_at many.jobs s))
    (held has (job_of_swap many.jobs s).roles (holds s (subst (λ n. s < n) (length-map many.jobs new_world) l)))

-- All is ready.

pub cast_is_ready : (n : ℕ) (job : Job) (chains : List ℕ) → IsSwap n job chains → IsReadyCast (job_cast job)
cast_is_ready n job chains swap =
    is_ready job swap.accepted (have_seeds job swap.whole swap.wallets) (have_roles job swap.whole swap.scripts) (wallets_fit job swap.wallets)

-- whatever strategies answer
ready_with : (c : Cast) (g : Answers) → IsReadyCast c → IsReadyCast (with_answers c g)
ready_with c g k = record { accepted = k.accepted; one_each = k.one_each; roles = k.roles; wallets = k.wallets; scripts = k.scripts }

pub all_is_ready : (many : ManyJob) (places : List (List Place)) → AreSwaps many → ArePlaced many places
    → overdrawn (setup_with_answers (λ s k. None) many places) ≡ None → (g : ℕ → Answers) → IsReadySetup (setup_with_answers g many places)
all_is_ready many places swaps placed none g = record {
  casts = λ s l. ready_with (job_cast (job_of_swap many.jobs s)) (g s)
      (cast_is_ready (length many.names) (job_of_swap many.jobs s) (slice_index_or many.chains s []) (swaps.swaps s l));
  chain = λ s a l k. (placed.known s a l k).chain;
  from = λ s a l k. (placed.known s a l k).from;
  to = λ s a l k. (placed.known s a l k).to;
  covered = no_lack_is_covered (setup_with_answers g many places) (record {
    chain = λ s a l k. (placed.known s a l k).chain;
    from = λ s a l k. (placed.known s a l k).from;
  }) none;
}

-- what is kept before any event
pub kept_before : (many : ManyJob) (places : List (List Place)) (g : ℕ → Answers) → AreOpenable many.units (map new_world many.jobs) places
    → many_kept (new_worlds many places) ≡ kept_start (setup_with_answers g many places)
kept_before many places g opening_deadline =
    kept_is many.units (map new_world many.jobs) places opening_deadline g ∙ ap (λ (m : Setup). kept_start m) (new_are_of many places g)

-- How chains are opened.

-- what is set aside doesn't hang on what strategies answer
lacks_as : (many : ManyJob) (places : List (List Place))
    → overdrawn (setup_of_worlds (map new_world many.jobs) places many.units) ≡ overdrawn (setup_with_answers (λ s k. None) many places)
lacks_as many places = ap overdrawn (new_are_of many places (λ s k. None))

opened_by : (many : ManyJob) (places : List (List Place)) (lack : Option Overdrawn) → find_places many ≡ Ok places
    → overdrawn (setup_with_answers (λ s k. None) many places) ≡ lack → opened_places many ≡ unless_lacking many lack places
unfolding opened_places
opened_by many places lack e none =
    ap (λ (r : Result (List (List Place)) Refusal). r >>= λ ps. unless_lacking many (overdrawn (setup_with_answers (λ s k. None) many ps)) ps) e
    ∙ ap (λ (o : Option Overdrawn). unless_lacking many o places) none

-- no account has a place there
pub places_fail : (many : ManyJob) (refusal : Refusal) → find_places many ≡ Err refusal → opened_places many ≡ Err refusal
unfolding opened_places
places_fail many refusal e =
    ap (λ (r : Result (List (List Place)) Refusal). r >>= λ ps. unless_lacking many (overdrawn (setup_with_answers (λ s k. None) many ps)) ps) e

pub are_opened : (many : ManyJob) (places : List (List Place)) (w : ManyState) → AreSwaps many → ArePlaced many places → find_places many ≡ Ok places
    → AreOpenable many.units (map new_world many.jobs) places
    → opened_swaps many.units (map new_world many.jobs) places ≡ Ok w → AreOpenedWorlds many w
are_opened many places w swaps placed e opening_deadline made =
    let k = was_opened (overdrawn (setup_of_worlds (map new_world many.jobs) places many.units)) (new_worlds many places) w made in
    let none : overdrawn (setup_with_answers (λ s k. None) many places) ≡ None = sym (lacks_as many places) ∙ k.0 in
    record {
      places = places;
      are_placed = opened_by many places None e none;
      openable = opening_deadline;
      new = k.1;
      ready = all_is_ready many places swaps placed none;
    }

-- an account lacks units
pub is_lacking : (many : ManyJob) (places : List (List Place)) (lack : Overdrawn) → find_places many ≡ Ok places
    → opened_swaps many.units (map new_world many.jobs) places ≡ Err lack → opened_places many ≡ unless_lacking many (Some lack) places
is_lacking many places lack e made =
    opened_by many places (Some lack) e (sym (lacks_as many places)
    ∙ was_refused (overdrawn (setup_of_worlds (map new_world many.jobs) places many.units)) (new_worlds many places) lack made)

-- it is one of the chain's accounts
pub record IsAccount (chains : List (List ℕ)) (l : Overdrawn) : Type 0 where
  pub chain : l.chain < length chains
  pub account : l.account < length (slice_index_or chains l.chain [])

lack_is : (m : Setup) (i x : ℕ) (l : Overdrawn) → account_lack m i x ≡ Some l → (l.chain ≡ i) × (l.account ≡ x)
lack_is m i x l e = go (nat_lt (opening_units m i x) (set_aside m i x)) e
  where
    go : (b : Bool) → cond {A = Option Overdrawn} b (Some (record { chain = i; account = x; have = opening_units m i x; wanted = set_aside m i x })) None ≡ Some l
        → (l.chain ≡ i) × (l.account ≡ x)
    go false e = absurd (cc e)
    go true e =
        let same : ◌≡◌ {A = Overdrawn} (record { chain = i; account = x; have = opening_units m i x; wanted = set_aside m i x }) l = cc e in
        (sym (ap (λ (o : Overdrawn). o.chain) same), sym (ap (λ (o : Overdrawn). o.account) same))

lack_is_known : (m : Setup) (l : Overdrawn) → overdrawn m ≡ Some l → IsAccount m.chains l
lack_is_known m l e =
    let f = first_at (chain_lack m) (range_with_len 0 (length m.chains)) l e in
    let h = first_at (account_lack m f.now) (range_with_len 0 (length (slice_index_or m.chains f.now []))) l f.gives in
    let is = lack_is m f.now h.now l h.gives in
    let low : f.now < length m.chains = from_range f.now (length m.chains) (in_list (range_with_len 0 (length m.chains)) f.past f.now f.stands) in
    let place : h.now < length (slice_index_or m.chains f.now []) =
    from_range h.now (length (slice_index_or m.chains f.now []))
    (in_list (range_with_len 0 (length (slice_index_or m.chains f.now []))) h.past h.now h.stands) in
    record {
      chain = subst (λ i. i < length m.chains) (sym is.0) low;
      account = subst (λ i. l.account < length (slice_index_or m.chains i [])) (sym is.0)
          (subst (λ x. x < length (slice_index_or m.chains f.now [])) (sym is.1) place);
    }
  where
    in_list : (xs past : List ℕ) (x : ℕ) → (rest : List ℕ) × (xs ≡ past ++ x ∷ rest) → IsElement x xs
    in_list xs past x m = subst (λ (ys : List ℕ). IsElement x ys) (sym m.1) (in_from_moment past x m.0)

pub known_lack : (many : ManyJob) (places : List (List Place)) (lack : Overdrawn)
    → opened_swaps many.units (map new_world many.jobs) places ≡ Err lack → IsAccount many.units lack
known_lack many places lack made =
    lack_is_known (setup_of_worlds (map new_world many.jobs) places many.units) lack
    (was_refused (overdrawn (setup_of_worlds (map new_world many.jobs) places many.units)) (new_worlds many places) lack made)

-- The wallets of each swap, one after another.

-- the wallets of the next swap, given the number of swaps before it
pub next_own : (jobs : List Job) (k : ℕ) (own : List (Option WalletState)) (rest : List (List (Option WalletState)))
    → own ∷ rest ≡ map (prepared_wallets Run) (drop k jobs)
    → (k < length jobs) × (own ≡ prepared_wallets Run (job_of_swap jobs k)) × (rest ≡ map (prepared_wallets Run) (drop (k + 1) jobs))
next_own [] zero own rest e = absurd (cc e)
next_own [] (suc k) own rest e = absurd (cc e)
next_own (job ∷ jobs) zero own rest e = (omega arith, cc e, cc e)
next_own (job ∷ jobs) (suc k) own rest e =
    let r = next_own jobs k own rest e in
    let one : suc k + 1 ≡ suc (k + 1) = omega arith in (
      omega (arith, r.0),
      r.1,
      r.2 ∙ sym (ap (λ n. map (prepared_wallets Run) (drop n (job ∷ jobs))) one),
    )

-- no wallets are left, so all worlds were made
all_taken : (jobs : List Job) (k : ℕ) → [] ≡ map (prepared_wallets Run) (drop k jobs) → take k jobs ≡ jobs
all_taken [] zero e = refl
all_taken [] (suc k) e = refl
all_taken (job ∷ jobs) zero e = absurd (cc e)
all_taken (job ∷ jobs) (suc k) e = ap (λ (xs : List Job). job ∷ xs) (all_taken jobs k e)

pub all_made : (jobs : List Job) (k : ℕ) (worlds : List WorldState) → [] ≡ map (prepared_wallets Run) (drop k jobs) → worlds ≡ map new_world (take k jobs)
    → worlds ≡ map new_world jobs
all_made jobs k worlds e so_far = so_far ∙ ap (map new_world) (all_taken jobs k e)

-- What was opened.

pub opened_are_of : (many : ManyJob) (w : ManyState) → AreOpenedWorlds many w → AreSwapWorlds many w
opened_are_of many w k = subst (λ (v : ManyState). AreSwapWorlds many v) (sym k.new) (new_are_of many k.places)

pub opened_are_held : (has : List ℕ → Bool) (many : ManyJob) (w : ManyState) → AreOpenedWorlds many w → HoldsEverySwap has many → AreAllHeld has w
opened_are_held has many w k holds = subst (λ (v : ManyState). AreAllHeld has v) (sym k.new) (all_held has many k.places holds)

-- What is shown of worlds that came from them.

module _ (gives : MayGive) (many : ManyJob) (places : List (List Place)) (swaps : AreSwaps many) (chains : AreBoundedChains many) (w : ManyState)
    (k : AreSame gives (new_worlds many places) w) where
  pub worlds_shown : AreShown w many.jobs
  worlds_shown = record {
    one_each = sym (length-map many.jobs new_world) ∙ sym k.swaps;
    swaps = λ s job l is.
        let same : job ≡ job_of_swap many.jobs s = is ∙ any_default many.jobs s job no_job l in
        let cast : world_cast (nth_world w s) ≡ job_cast (job_of_swap many.jobs s) = k.casts s ∙ ap world_cast (new_at many.jobs s) in
        record {
          deal = ap (λ (c : Cast). c.deal) cast ∙ ap (λ (j : Job). j.deal) (sym same);
          conforming = subst (λ (j : Job). length j.conforming ≡ j.deal.graph.n) (sym same) (swaps.swaps s l).whole.conforming;
        };
  }

  pub chains_shown : AreChainsShown w many.names
  chains_shown = record {
    one_each = sym chains.each ∙ sym (ap (λ (os : List (List ℕ)). length os) k.openings);
    chains = λ i accounts l is.
        let same : accounts ≡ slice_index_or many.names i [] = is ∙ any_default many.names i accounts [] l in
        let chain = chains.chains i l in
        record {
          few = subst (λ (xs : List (List ℕ)). length xs ≤ 64) (sym same) chain.few;
          accounts = ap (λ (os : List (List ℕ)). length (slice_index_or os i [])) k.openings
              ∙ (chain.each ∙ ap (λ (xs : List (List ℕ)). length xs) (sym same));
        };
  }

-- no swap was read yet
pub unread_holds : (has : List ℕ → Bool) → HoldsEverySwap has nothing_headed.many
unread_holds has s l = absurd (omega (arith, l))

-- The next swap, with its wallets and those of the swaps after it.
pub record IsNext (many : ManyJob) (k : ℕ) (job : Job) (own : List (Option WalletState)) (rest : List (List (Option WalletState))) : Type 0 where
  pub low : k < length many.jobs
  pub is : job ≡ job_of_swap many.jobs k
  pub swap : IsSwap (length many.names) job (slice_index_or many.chains k [])
  pub made : own ≡ prepared_wallets Run job
  pub others : rest ≡ map (prepared_wallets Run) (drop (k + 1) many.jobs)

pub next_swap : (many : ManyJob) → AreSwaps many → (worlds : List WorldState) (jobs : List Job) (n : ℕ) (job : Job) (own : List (Option WalletState))
    (rest : List (List (Option WalletState))) → own ∷ rest ≡ map (prepared_wallets Run) (drop (length worlds) many.jobs) → jobs ≡ many.jobs
    → n ≡ length worlds → job ≡ slice_index_or jobs n job → IsNext many (length worlds) job own rest
next_swap many swaps worlds jobs n job own rest e same here is =
    let k = length worlds in
    let r = next_own many.jobs k own rest e in
    let found : job ≡ job_of_swap many.jobs k =
    is ∙ (ap (λ (xs : List Job). slice_index_or xs n job) same ∙ (ap (λ i. slice_index_or many.jobs i job) here ∙ any_default many.jobs k job no_job r.0)) in
    record {
      low = r.0;
      is = found;
      swap = subst (λ (j : Job). IsSwap (length many.names) j (slice_index_or many.chains k [])) (sym found) (swaps.swaps k r.0);
      made = r.1 ∙ ap (prepared_wallets Run) (sym found);
      others = r.2;
    }

longer : (old new : List WorldState) (w : WorldState) → new ≡ old ++ w ∷ [] → length new ≡ length old + 1
longer old new w e = ap (λ (xs : List WorldState). length xs) e ∙ length-append old (w ∷ [])

pub one_made : (jobs : List Job) (old new : List WorldState) (w : WorldState) (job : Job) → length old < length jobs → job ≡ job_of_swap jobs (length old)
    → w ≡ new_world job → new ≡ old ++ w ∷ [] → old ≡ map new_world (take (length old) jobs) → new ≡ map new_world (take (length new) jobs)
one_made jobs old new w job low is made more so_far =
    map_next new_world jobs (length old) no_job old new low
    (more ∙ ap (λ (v : WorldState). old ++ v ∷ []) (made ∙ ap new_world is)) so_far
    ∙ ap (λ n. map new_world (take n jobs)) (sym (longer old new w more))

pub others_left : (jobs : List Job) (old new : List WorldState) (w : WorldState) (rest : List (List (Option WalletState))) → new ≡ old ++ w ∷ []
    → rest ≡ map (prepared_wallets Run) (drop (length old + 1) jobs) → rest ≡ map (prepared_wallets Run) (drop (length new) jobs)
others_left jobs old new w rest more e = e ∙ ap (λ n. map (prepared_wallets Run) (drop n jobs)) (sym (longer old new w more))

-- Refusals of places and of accounts.

pub fails_placed : (many : ManyJob) (fault : Fault Refusal) → Fails fault (find_places many) → Fails fault (opened_places many)
fails_placed many offer.NoMemory e = tt
fails_placed many (offer.Refused r) e = places_fail many r e

pub lack_fails : (many : ManyJob) (places : List (List Place)) (lack : Overdrawn) (fault : Fault Refusal) → IsLack many (offer.Refused lack) fault
    → opened_places many ≡ unless_lacking many (Some lack) places → Fails fault (opened_places many)
lack_fails many places lack offer.NoMemory k e = tt
lack_fails many places lack (offer.Refused r) k e = e ∙ ap (λ (x : Refusal). let y : Result (List (List Place)) Refusal = Err x in y) (sym k)

-- the account has a name
pub named_lack : (many : ManyJob) (l : Overdrawn) → AreBoundedChains many → IsAccount many.units l
    → (l.chain < length many.names) × (l.account < length (slice_index_or many.names l.chain []))
named_lack many l chains k =
    let low : l.chain < length many.names = subst (λ n. l.chain < n) chains.each k.chain in
    (low, subst (λ n. l.account < n) (chains.chains l.chain low).each k.account)
