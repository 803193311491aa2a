-- What callers see of many worlds, and what leads from one to the next.
use Rattle.std.specs.Prelude.{◌≡◌, ℕ, ◌<◌, Bool, true, false, List, [], length, slice_index_or}
use Rattle.swap_digraph.specs.Deal.{no_deal}
use Rattle.swap_run.specs.Asked.{Answers}
use Rattle.swap_world.specs.Value.{WorldState, world_cast, answering_cast, Continues}
use Rattle.swap_world.specs.Gone.{MayGive, HasAsked}
use Rattle.swap_world.specs.Actors.{AreHeld}
use Rattle.swap_many.specs.declared.place.Place.{Place}
use Rattle.swap_many.specs.Accounts.{ChainState, account_units}
use Rattle.swap_many.specs.Chains.{Setup, in_accounts, opening_units, placed_units}
use Rattle.swap_many.specs.Many.{Run}
use Rattle.swap_many.specs.Kept.{Kept}
use Rattle.swap_many.specs.Laws.{IsReadySetup}
use Rattle.swap_many.specs.Way.{Leads}
use Rattle.swap_many.specs.Stages.{Stage, staged_run}

pub record ManyState : Type 0 where
  -- one world per swap
  pub worlds : List WorldState
  -- where each arc of each swap stands
  pub places : List (List Place)
  -- the opening units of each chain's accounts, which clauses alone read
  pub openings : List (List ℕ)
  pub chains : List ChainState
  -- which slots are swept
  pub swept : List (List Bool)
  -- what was done so far, which clauses alone read
  pub stages : List Stage
  -- memory ran out in an earlier step
  pub stopped : Bool

abbrev pub no_world : WorldState
no_world = record {
  deal = no_deal;
  conforming = [];
  seeds = [];
  roles = [];
  answers = [];
  state = record { book = []; notes = []; plans = []; asked = [] };
  stopped = false;
}

abbrev pub no_chain : ChainState
no_chain = record { clock = record { height = 0; ticks = 0 }; free = [] }

-- the world of swap s
abbrev pub nth_world : ManyState → ℕ → WorldState
nth_world w s = slice_index_or w.worlds s no_world

-- chain i
abbrev pub nth_chain : ManyState → ℕ → ChainState
nth_chain w i = slice_index_or w.chains i no_chain

-- the slots of swap s that are swept
abbrev pub swept_slots : ManyState → ℕ → List Bool
swept_slots w s = slice_index_or w.swept s []

-- what runs, but for what strategies answer
abbrev pub world_setup : ManyState → Setup
world_setup w = record { swaps = length w.worlds; cast = λ s. world_cast (nth_world w s); places = w.places; chains = w.openings }

-- what runs, where the strategies of swap s answer g s
abbrev pub made_setup : ManyState → (ℕ → Answers) → Setup
made_setup w g = record { swaps = length w.worlds; cast = λ s. answering_cast (nth_world w s) (g s); places = w.places; chains = w.openings }

-- what is kept
abbrev pub many_kept : ManyState → Kept
many_kept w = record {
  swaps = λ s. (nth_world w s).state;
  clocks = λ i. (nth_chain w i).clock;
  free = λ i. account_units (nth_chain w i).free;
  swept = λ s a. slice_index_or (swept_slots w s) a false;
}

-- the run of all that was done so far, by the histories of the chains
abbrev pub world_run : ManyState → (ℕ → Answers) → Run
world_run w g = staged_run (made_setup w g) w.stages

-- on each chain all units are in one place
abbrev pub AreUnitsPlaced : Setup → Run → Type 0
AreUnitsPlaced m r = (i : ℕ) → i < length m.chains → placed_units m i (r.chains i) ≡ in_accounts m i (opening_units m i)

-- the answers of each swap's strategies begin with those so far
abbrev pub ContinueAll : ManyState → (ℕ → Answers) → Type 0
ContinueAll w g = (s : ℕ) → s < length w.worlds → Continues (nth_world w s) (g s)

-- each strategy that a party of a swap follows is held
abbrev pub AreAllHeld : (List ℕ → Bool) → ManyState → Type 0
AreAllHeld holds w = (s : ℕ) → s < length w.worlds → AreHeld holds (nth_world w s).roles

-- all is ready, whatever is answered
abbrev pub AreReady : ManyState → Type 0
AreReady w = (g : ℕ → Answers) → IsReadySetup (made_setup w g)

-- A fair finish may go on: memory never ran out, all is ready, and each strategy is held.
pub record CanContinue (holds : List ℕ → Bool) (w : ManyState) : Type 0 where
  pub goes_on : w.stopped ≡ false
  pub ready : AreReady w
  pub held : AreAllHeld holds w

-- The party is one of the swap.
pub record IsSwapParty (w : ManyState) (s p : ℕ) : Type 0 where
  pub swap : s < length w.worlds
  pub party : p < (nth_world w s).deal.graph.n

-- The swaps, places and openings are the same, and each swap's strategies were asked some more.
pub record AreSame (gives : MayGive) (old new : ManyState) : Type 0 where
  pub swaps : length new.worlds ≡ length old.worlds
  pub casts : (s : ℕ) → world_cast (nth_world new s) ≡ world_cast (nth_world old s)
  pub asked : (s : ℕ) → HasAsked gives (nth_world old s) (nth_world new s)
  pub places : new.places ≡ old.places
  pub openings : new.openings ≡ old.openings

-- f has led from old to new, whatever strategies may answer after that.
pub record HasManyGone (gives : MayGive) (f : Setup → Kept → Kept) (old new : ManyState) : Type 0 where
  pub same : AreSame gives old new
  pub goes_on : new.stopped ≡ old.stopped
  pub kept : (g : ℕ → Answers) → ContinueAll new g → many_kept new ≡ f (made_setup old g) (many_kept old)

-- The books, the heights and the free accounts are those of a state between z and t, which steps
-- lead to and from.
pub record IsIntermediateState (m : Setup) (z t : Kept) (w : ManyState) : Type 0 where
  pub there : Kept
  pub before : Leads m z there
  pub after : Leads m there t
  pub books : (s : ℕ) → s < length w.worlds → (nth_world w s).state.book ≡ (there.swaps s).book
  pub clocks : (i : ℕ) → (nth_chain w i).clock ≡ there.clocks i
  pub free : (i : ℕ) → account_units (nth_chain w i).free ≡ there.free i

-- Memory ran out on the way to where f leads.
pub record IsManyStopped (gives : MayGive) (f : Setup → Kept → Kept) (old new : ManyState) : Type 0 where
  pub stopped : new.stopped ≡ true
  pub same : AreSame gives old new
  pub way : (g : ℕ → Answers) → ContinueAll new g → IsIntermediateState (made_setup old g) (many_kept old) (f (made_setup old g) (many_kept old)) new
