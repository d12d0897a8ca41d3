-- Demand 3: one theorem, of the whole list.
--
-- Let a store be what format left, or what a recover call left that replied "done". Let any threads make any list of calls on it,
-- with any arguments, refused ones included, while the memory writes any words back. Let the power fail at any moment: before the
-- first call, after any single store into the persistent image, also within a sync, or within that store, so that each word of the
-- image is as before it or as after it. Then recovery completes, with any words in working and notes before each of its calls, and with
-- cuts within its own stores as often as may be; and it gives exactly the starting jobs changed by the accepted changes of operations
-- whose epoch is at most c − 2, in call order, c being the persistent clock at the cut. What had ended when a sync last reported done is
-- among them. "Jobs" are those of both boards: the entries of the queue are there too, each under the order number that its append was
-- given, and of these operations each take took away the smallest that was there at its turn.
use Rattle.std.specs.Prelude.{List, ℕ}
use Rattle.image.specs.Torn.{Torn}
use Rattle.transient.specs.Store.{Store}
use Rattle.guarantee.specs.Trace.{Call, Moment, moments, Around, beside}
use Rattle.guarantee.specs.Promise.{jobs_of, Started, Promise}
use Rattle.guarantee.proofs.Cutting.{cut-promise}
use Rattle.guarantee.proofs.Tearing.{torn-cuts}

pub demand-3 : (st : Store) → Started st → (calls : List Call) (before after : Moment) → Around (moments st calls) before after
    → (l : List ℕ) → Torn before.store.persistent after.store.persistent l → Promise (jobs_of st.persistent) l (beside l before after)
demand-3 st s calls before after i l t = cut-promise (torn-cuts s calls i t)
