-- The code's rectangle of cells, of which a call answers, by its sides. Assumes nothing.
use Rattle.course.specs.Rules.Rect.{Rect}
use Rattle.course.specs.declared.rect.Rect.{Rect as CodeRect}

-- the code's struct as the definitions' own
abbrev pub rect_as : CodeRect → Rect
rect_as r = record { x0 = r.x0; x1 = r.x1; y0 = r.y0; y1 = r.y1 }
