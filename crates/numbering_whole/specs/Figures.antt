-- What the figures of a whole graph mean in document 01's values. Assumes nothing.
use Rattle.spec.specs.Numbering.{Figures}
use Rattle.numbering_whole.specs.declared.shape.RunFigures.{RunFigures}

-- "seven figures"
abbrev pub seven : RunFigures → Figures
seven f = record {
  nodes = f.nodes;
  parts = f.parts;
  bandwidth = f.bandwidth;
  profile = f.profile;
  front = f.front;
  levels = f.levels;
  width = f.width;
}
