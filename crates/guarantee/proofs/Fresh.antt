-- What format leaves: an image that recovery accepts, in which nothing survives.
use Rattle.std.specs.Prelude.{ℕ, ◌+◌, ◌≤◌, ◌≡◌, refl, Bool, true, false, ◌⊎◌, List, length, get_or, set, replicate, eqb, Ok, Err}
use Rattle.std.proofs.Common.{◌∙◌, inl, inr, arith}
use Rattle.std.proofs.Math.ListN.{length-set}
use Rattle.std.proofs.lemmas.List.{length-replicate}
use Rattle.std.proofs.Math.Seq.{get_or-set_same, get_or-set_other}
use Rattle.search.specs.Bools.{cases, never, refuted, and_left, and_right}
use Rattle.reply.specs.declared.Refusal.TheVariants.{BadSizes}
use Rattle.image.specs.Layout.{queue_board, header_at, image_words, is_filled, header, slots_of, width_of, clock_of, free_header, sizes_ok, is_blank, has_zero}
use Rattle.image.specs.Requires.{InRange}
use Rattle.image.specs.Laws.{sizes-true}
use Rattle.transient.specs.Layout.{threads_ok}
use Rattle.transient.specs.Store.{Store}
use Rattle.transient.specs.Laws.{zeros-at}
use Rattle.survival.specs.Survivors.{kept, survivor}
use Rattle.acceptance.specs.Accept.{version_below, name_below, image_check}
use Rattle.acceptance.specs.Requires.{nameless}
use Rattle.acceptance.specs.Sound.{says-accepted}
use Rattle.format.specs.Format.{fresh_image, format}
use Rattle.format.specs.Requires.{format_fits, fresh_store}
use Rattle.guarantee.proofs.Indexing.{freed-unfilled}
use Rattle.guarantee.proofs.Clean.{free-blank, Begins, blank-clean, survivor-kept, on-survives, free-proper, clean-good}

module _ (n w : ℕ) (sizes : InRange n w) where
  abbrev image : List ℕ
  image = fresh_image n w

  abbrev empty : List ℕ
  empty = replicate (image_words n w) 0

  empty-length : length empty ≡ image_words n w
  empty-length = length-replicate (image_words n w) 0

  -- its words: n, w, the clock 2, and zeros
  fresh-length : length (fresh_image n w) ≡ image_words n w
  unfolding fresh_image
  fresh-length = simp (length-set, length-replicate)

  fresh-word : (j : ℕ) → 3 ≤ j → get_or (fresh_image n w) j 0 ≡ 0
  unfolding fresh_image
  fresh-word j h =
      get_or-set_other (set (set empty 0 n) 1 w) 2 j 2 0 (λ q. omega arith) ∙ get_or-set_other (set empty 0 n) 1 j w 0 (λ q. omega arith)
      ∙ get_or-set_other empty 0 j n 0 (λ q. omega arith) ∙ zeros-at (image_words n w) j

  fresh-slots : slots_of (fresh_image n w) ≡ n
  unfolding fresh_image
  fresh-slots =
      get_or-set_other (set (set empty 0 n) 1 w) 2 0 2 0 (λ q. omega arith) ∙ get_or-set_other (set empty 0 n) 1 0 w 0 (λ q. omega arith)
      ∙ get_or-set_same empty 0 n 0 (omega (arith, empty-length))

  fresh-width : width_of (fresh_image n w) ≡ w
  unfolding fresh_image
  fresh-width =
      get_or-set_other (set (set empty 0 n) 1 w) 2 1 2 0 (λ q. omega arith)
      ∙ get_or-set_same (set empty 0 n) 1 w 0 (omega (arith, length-set empty 0 n, empty-length))

  fresh-clock : clock_of (fresh_image n w) ≡ 2
  unfolding fresh_image
  fresh-clock =
      get_or-set_same (set (set empty 0 n) 1 w) 2 2 0 (omega (arith, length-set (set empty 0 n) 1 w, length-set empty 0 n, empty-length))

  -- every header is free
  fresh-header : (s : ℕ) → header (fresh_image n w) s ≡ free_header
  unfolding header
  fresh-header s =
      λ i. record {
        kind = fresh-word (header_at s) (omega arith) i;
        epoch = fresh-word (header_at s + 1) (omega arith) i;
        uid = fresh-word (header_at s + 2) (omega arith) i;
        board = fresh-word (header_at s + 3) (omega arith) i;
      }

  -- nothing is kept, so nothing survives
  fresh_kept : (s : ℕ) → kept (clock_of image) (header image s) ≡ false
  unfolding kept is_filled has_zero
  fresh_kept s = rw (fresh-header s)

  fresh-dead : (m s : ℕ) → survivor image m s ≡ false
  fresh-dead m s = refuted (survivor image m s) (λ v. never _ (survivor-kept image m s v) (fresh_kept s))

  -- recovery accepts it
  fresh-accepted : image_check image ≡ Ok tt
  unfolding nameless version_below name_below
  fresh-accepted =
      says-accepted image
      (record {
        sized = rw (fresh-slots, fresh-width) record { sizes = sizes; long = fresh-length };
        clock-lo = rw fresh-clock (omega arith);
        clock-hi = rw fresh-clock (omega arith);
        sound = record {
          all-proper = λ s h. rw (fresh-header s) (free-proper (clock_of image));
          named = λ s h. rw (fresh-dead (slots_of image) s);
          versions = λ s h. rw (fresh_kept s);
          names = λ s h. rw (fresh-dead (slots_of image) s);
        };
      })

  -- with blank notes it has the invariant
  pub fresh-good : (len : ℕ) → threads_ok len n ≡ true → Begins (fresh_store len n w)
  unfolding fresh_store
  fresh-good len t =
      clean-good (blank-clean image len n 1 1 fresh-accepted
      (λ s h f. never (is_blank free_header) free-blank (rw (fresh-header s) at f))
      (omega arith)
      (λ s h v. never _ v (fresh-dead (slots_of image) s))
      (λ s h v. never _ (on-survives image (slots_of image) queue_board s v) (fresh-dead (slots_of image) s))
      (λ s h. rw (fresh-header s) freed-unfilled)
      (rw fresh-slots t))

-- what an accepted format judged
pub record Formats (st : Store) (n w : ℕ) : Type 0 where
  pub sizes : InRange n w
  pub threads : threads_ok (length st.transient) n ≡ true
  pub leaves : (format st n w).store ≡ fresh_store (length st.transient) n w

pub formats : (st : Store) (n w : ℕ) → (format st n w).reply ≡ Ok tt → Formats st n w
unfolding format format_fits fresh_store
formats st n w e = go (cases fit)
  where
    fit : Bool
    fit = format_fits (length st.working) (length st.persistent) (length st.transient) n w

    go : (fit ≡ true) ⊎ (fit ≡ false) → Formats st n w
    go (inl y) =
        let a = and_right (sizes_ok n w) _ y in
        let b = and_right (eqb (length st.working) (image_words n w)) _ a in
        record {
          sizes = sizes-true n w refl (and_left (sizes_ok n w) _ y);
          threads = and_right (eqb (length st.persistent) (image_words n w)) _ b;
          leaves = rw y;
        }
    go (inr y) = let q : Err BadSizes ≡ Ok tt = rw y at e in let z : ◌≡◌ {A = ℕ} 0 1 = cc in absurd (omega arith)
