-- The faults of find by number and layer; a fault of a layer below keeps its own.
use Rattle.std.specs.Prelude.{ℕ}
use Rattle.rules.specs.declared.layer.Layer.{Layer}
use Rattle.rules.specs.declared.layer.Layer.TheVariants as layers
use Rattle.rules.specs.Refusals as refusals
use Rattle.deciders.specs.Answers.{report_values}
use Rattle.deciders.specs.Sizes.{size_number, size_layer}
use Rattle.waivers.specs.declared.fault.FinderFault.{FinderFault}
use Rattle.waivers.specs.declared.fault.FinderFault.TheVariants.{Case, Size, NoWaiver, Decider, ListFull}

-- the number of each fault
abbrev pub finder_number : FinderFault → ℕ
finder_number (Case r) = refusals.refusal_number r
finder_number (Size e) = size_number e
finder_number NoWaiver = 20
finder_number (Decider e) = (report_values e).0
finder_number (ListFull s) = 22

-- the layer of each fault: a refused call is the case's, and a decider's fault the decider's
abbrev pub finder_layer : FinderFault → Layer
finder_layer (Case r) = layers.Case
finder_layer (Size e) = size_layer e
finder_layer NoWaiver = layers.Finder
finder_layer (Decider e) = layers.Decider
finder_layer (ListFull s) = layers.Finder
