-- What the values of the code say.
use Rattle.masm.specs.Places.{Layout}
use Rattle.masm.specs.declared.layout.Layout.{Layout as LayoutCode}

abbrev pub layout_view : LayoutCode → Layout
layout_view l = record { earlier = l.earlier.items; current = l.current }
