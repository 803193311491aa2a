-- Where the arcs of the swaps stand: on which chain, with the accounts of their parties' names.
use Rattle.std.specs.Prelude.{ℕ, ◌+◌, List, [], ◌∷◌, position, slice_index_or, Option, Some, None, Result, Ok, Err}
use Rattle.std.specs.Str.{bytes_eq}
use Rattle.swap_base.specs.Fault.{◌>>=◌}
use Rattle.swap_digraph.specs.Graph.{ends}
use Rattle.swap_job.specs.declared.job.Job.{Job}
use Rattle.swap_job.specs.declared.job.Finish.TheVariants.{Stop}
use Rattle.swap_job.specs.declared.job.Purpose.TheVariants.{Run}
use Rattle.command_input.specs.declared.reason.Reason.TheVariants.{NoAccount}
use Rattle.command_input.specs.declared.refusal.Refusal.{Refusal}
use Rattle.command_input.specs.Refusal.{refusal}
use Rattle.command_input.specs.Words.{party_name}
use Rattle.swap_digraph.specs.Deal.{no_deal}
use Rattle.swap_many.specs.declared.place.Place.{Place}
use Rattle.many_lines.specs.declared.many_job.ManyJob.{ManyJob}

abbrev pub no_job : Job
no_job = record { purpose = Run; deal = no_deal; names = []; roles = []; conforming = []; seeds = []; finish = Stop }

-- the job of swap s
abbrev pub job_of_swap : List Job → ℕ → Job
job_of_swap jobs s = slice_index_or jobs s no_job

-- the place of an account among those of a chain
abbrev pub find_account : List (List ℕ) → List ℕ → Option ℕ
find_account accounts name = position (bytes_eq name) accounts

abbrev pub make_place : ℕ → Option ℕ → Option ℕ → Option Place
make_place chain (Some from) (Some to) = Some (record { chain = chain; from = from; to = to })
make_place chain (Some from) None = None
make_place chain None to = None

-- the place of arc a on a chain with these accounts, where both its parties have one
abbrev pub arc_place : (accounts : List (List ℕ)) → Job → (chain a : ℕ) → Option Place
arc_place accounts job chain a =
    make_place chain (find_account accounts (party_name job.names (ends job.deal.graph a).from)) (find_account accounts (party_name job.names
    (ends job.deal.graph a).to))

abbrev pub place_or : ℕ → ℕ → Option Place → Result Place Refusal
place_or s a (Some place) = Ok place
place_or s a None = Err (refusal [] (NoAccount s a))

-- where arc a of swap s stands, by its chain
abbrev pub find_place : List (List (List ℕ)) → ℕ → Job → (chain a : ℕ) → Result Place Refusal
find_place names s job chain a = place_or s a (arc_place (slice_index_or names chain []) job chain a)

-- where the arcs of swap s stand from arc a on, by their chains
abbrev pub arc_places : List (List (List ℕ)) → ℕ → Job → ℕ → List ℕ → Result (List Place) Refusal
arc_places names s job a [] = Ok []
arc_places names s job a (chain ∷ chains) =
    find_place names s job chain a >>= λ place. arc_places names s job (a + 1) chains >>= λ places. Ok (place ∷ places)

-- where the arcs of the swaps from s on stand
abbrev pub swap_places : ManyJob → ℕ → List (List ℕ) → Result (List (List Place)) Refusal
swap_places many s [] = Ok []
swap_places many s (chains ∷ more) =
    arc_places many.names s (job_of_swap many.jobs s) 0 chains >>= λ places. swap_places many (s + 1) more >>= λ others. Ok (places ∷ others)

-- where the arcs of all swaps stand, or the first arc with a party that has no account there
abbrev pub find_places : ManyJob → Result (List (List Place)) Refusal
find_places many = swap_places many 0 many.chains
