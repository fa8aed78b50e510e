-- `text::hold` meets its contract: as many bytes as have room stand behind those that are held.
-- Assumes nothing.
use Prim.Native.Nat.{◌≤◌}
use native.Mathlib.Omega.{arith}
use mathlib.Core.Path.{sym}
use lib.ListN.{length, length-take}
use lib.Seq.{length-take-le}
use Rattle.text.proofs.Held.{held-within, held_more}
use Rattle.text.proofs.hold.Goals as goal

pub slice_bounds-put_bytes-end : goal.slice_bounds-put_bytes-end
slice_bounds-put_bytes-end c =
    let k = c.min-k in
    let more = c.args.more.now in
    let few : k.result ≤ length more = omega (arith, k.ensures) in
    sym (length-take-le k.result more few)

pub put_bytes-requires : goal.put_bytes-requires
put_bytes-requires c =
    let k = c.min-k in
    omega (arith, k.ensures, c.requires, length-take k.result c.args.more.now)

pub returns : goal.returns
returns c =
    let k = c.min-k in
    let a = c.args in
    let room = a.room.now in
    let more = a.more.now in record {
      upper_bound = held-within room more a.n k.result c.requires k.ensures c.put_bytes.ensures;
      room_after = held_more room more a.n k.result c.requires k.ensures c.put_bytes.ensures;
    }
