-- Two lists of figures that hold are one list that holds.
use mathlib.Core.List.{List, ◌++◌, map-append}
use Rattle.ground.specs.Figures.{Figure, Hold}

pub hold_both : (these those : List Figure) → Hold these → Hold those → Hold (these ++ those)
hold_both these those h k =
    rw (map-append (λ (f : Figure). f.got) these those, map-append (λ (f : Figure). f.want) these those, h, k)
