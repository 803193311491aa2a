use Rattle.std.proofs.Common.{◌≡◌, drop}
use Rattle.offer_header.specs.Scripts.{roles_placed}
use Rattle.offer_header.proofs.scripts.check_roles.Given as goal

abbrev pub invariant-loop-p : goal.invariant-loop-p
invariant-loop-p l = roles_placed l.arcs l.conforming l.line l.p (drop l.p l.roles) ≡ roles_placed l.arcs l.conforming l.line 0 l.roles
