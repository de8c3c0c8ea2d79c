-- The seven figures, as the definitions have them. Assumes nothing.
use Rattle.spec.specs.Numbering as spec
use Rattle.file_writing.specs.declared.figures.Figures.{Figures}

abbrev pub figures_of : Figures → spec.Figures
figures_of f = record {
  nodes = f.nodes;
  parts = f.parts;
  bandwidth = f.bandwidth;
  profile = f.profile;
  front = f.front;
  levels = f.levels;
  width = f.width;
}
