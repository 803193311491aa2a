use Rattle.std.proofs.Common.{◌∙◌, ap}
use Rattle.swap_digraph.specs.Graph.{leaving}
use Rattle.swap_digraph.specs.Inside.{header_graph}
use Rattle.swap_digraph.proofs.Ranges.{place_below, place_is}
use Rattle.swap_digraph.proofs.digraph.Digraph.leaving.Goals as goal

pub bounds-as_slice-p : goal.bounds-as_slice-p
bounds-as_slice-p c =
    place_below (leaving (header_graph c.self.inside)) c.self.inside.n c.args.p c.as_slice.result.now (c.as_slice.ensures
    ∙ c.self.invariant.leaving) (rw (← c.self.view_is) at c.requires)

pub returns : goal.returns
returns c =
    c.as_slice-2.ensures
    ∙ place_is (leaving (header_graph c.self.inside)) c.self.inside.n c.args.p c.as_slice.result.now c.index-as_slice-p.result (c.as_slice.ensures
    ∙ c.self.invariant.leaving) (rw (← c.self.view_is) at c.requires) c.index-as_slice-p.is
    ∙ ap (λ g. leaving g c.args.p) c.self.view_is
