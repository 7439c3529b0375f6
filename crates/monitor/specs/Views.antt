-- What the values of the code say.
use Rattle.std.specs.Prelude.{ℕ}
use Rattle.monitor.specs.Orders.{Order, Guests, Books, Level, Tax, Target, Hold, Go, Log, In, Drain, Room, Help, Quit}
use Rattle.monitor.specs.declared.order.Order.{Order as OrderCode}
use Rattle.monitor.specs.declared.order.Order.TheVariants as order
use Rattle.monitor.specs.declared.order.GuestOrder.{GuestOrder}
use Rattle.monitor.specs.declared.order.GuestOrder.TheVariants as guest_order

abbrev pub order_view : OrderCode → Order
order_view order.List = Guests
order_view order.Books = Books
order_view order.Level = Level
order_view (order.Tax percent) = Tax percent
order_view (order.Target guest pages) = Target guest pages
order_view (order.Hold guest) = Hold guest
order_view (order.Go guest) = Go guest
order_view (order.Log guest) = Log guest
order_view (order.In guest bytes) = In guest bytes.items
order_view (order.Drain guest) = Drain guest
order_view order.Room = Room
order_view order.Help = Help
order_view order.Quit = Quit

abbrev pub order_for : GuestOrder → ℕ → Order
order_for guest_order.Hold guest = Hold guest
order_for guest_order.Go guest = Go guest
order_for guest_order.Log guest = Log guest
order_for guest_order.Drain guest = Drain guest
