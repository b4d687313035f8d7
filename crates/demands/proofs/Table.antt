-- The table of document 01, computed from the definitions. Assumes nothing.
use mathlib.Core.Path.{refl}
use Rattle.demands.specs.Table.{Table}

pub table : Table
table = record {
  line_1 = (refl, refl);
  line_2 = refl;
  line_3 = refl;
  line_4 = (refl, refl);
  line_5 = (refl, refl);
  line_6 = refl;
  line_7 = refl;
  line_8 = (refl, refl);
  line_9 = (refl, refl);
  line_10 = (refl, refl);
  line_11 = (refl, refl, refl, refl, refl);
}
