use Rattle.std.proofs.Common.{◌≡◌, ◌≤◌, ℕ, List, length, take, Option}
use Rattle.swap_digraph.specs.declared.deal.Deal.{Deal}
use Rattle.hashkey_path.specs.declared.hashkey.Hashkey.{Hashkey}
use Rattle.swap_job.specs.Crafted.{Seeds, crafted}
use Rattle.swap_job.specs.MoveKeys.{HasPathRoom}
use Rattle.swap_job.proofs.crafted.craft.Given as goal

-- what is made so far, with the parties that are left, is the whole
pub record IsPart (d : Deal) (seeds : Seeds) (i : ℕ) (start : Option Hashkey) (via : List ℕ) (made : Option Hashkey) (left : ℕ) : Type 0 where
  pub few : left ≤ length via
  pub whole : crafted d seeds i made (take left via) ≡ crafted d seeds i start via
  pub room : HasPathRoom d left made

abbrev pub invariant-loop-left : goal.invariant-loop-left
invariant-loop-left l = IsPart l.deal l.seeds l.lock l.fn.start l.via l.made l.left

abbrev pub decreases-loop-left : goal.decreases-loop-left
decreases-loop-left l = l.left
