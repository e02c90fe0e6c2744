-- One image after another.
use Rattle.std.proofs.Common.{◌≡◌, ℕ, ◌+◌, ◌<◌, ◌≤◌, List, [], ◌∷◌, ◌++◌, length, take, get_or, slice_get, refl, ap, ◌∙◌, sym, subst, arith}
use Rattle.std.proofs.lemmas.List.{take_more, length-take, length-append}
use Rattle.std.proofs.lemmas.Option.{slice_get-get_or}
use Rattle.call_table.specs.declared.files.Named.{Named}
use Rattle.work_gen.specs.Work.{IsImage, AreImages, IsFaulty, IsNoWorkOf}
use Rattle.work_gen.specs.declared.draw.Draw.{Draw}
use Rattle.work_gen.specs.declared.error.WorkError.{WorkError}
use Rattle.work_gen.specs.declared.error.WorkError.TheVariants.{Refused, NoMemory}

one_more : (index : ℕ) (draws : List Draw) (images : List Named) (draw : Draw) (image : Named) → AreImages index draws images → IsImage (index + length draws) draw image → AreImages index (draws ++ draw ∷ []) (images ++ image ∷ [])
one_more index [] [] draw image are one =
    let at : index + length {A = Draw} [] ≡ index = omega arith in
    (subst (λ (n : ℕ). IsImage n draw image) at one, tt)
one_more index [] (other ∷ images) draw image are one = absurd are
one_more index (other ∷ draws) [] draw image are one = absurd are
one_more index (first ∷ draws) (other ∷ images) draw image are one =
    let at : index + length (first ∷ draws) ≡ index + 1 + length draws = omega arith in
    (are.0, one_more (index + 1) draws images draw image are.1 (subst (λ (n : ℕ). IsImage n draw image) at one))

pub images_next : (draws : List Draw) (i number : ℕ) (draw : Draw) (images more : List Named) (image : Named) → i < length draws → number ≡ i → AreImages 0 (take i draws) images → IsImage number (get_or draws i draw) image → more ≡ images ++ image ∷ [] → AreImages 0 (take (i + 1) draws) more
images_next draws i number draw images more image less at are one push =
    let there : number ≡ 0 + length (take i draws) = omega (arith, length-take i draws) in
    subst (λ (ds : List Draw). AreImages 0 ds more) (sym (take_more draws i draw less))
    (subst (λ (ns : List Named). AreImages 0 (take i draws ++ get_or draws i draw ∷ []) ns) (sym push)
    (one_more 0 (take i draws) images (get_or draws i draw) image are (subst (λ (n : ℕ). IsImage n (get_or draws i draw) image) there one)))

pub count_next : (i : ℕ) (images more : List Named) (image : Named) → length images ≡ i → more ≡ images ++ image ∷ [] → length more ≡ i + 1
count_next i images more image is push = ap length push ∙ (length-append images (image ∷ []) ∙ ap (λ (n : ℕ). n + 1) is)

pub refused_at : (draws : List Draw) (i number : ℕ) (draw : Draw) (error : WorkError) → i < length draws → number ≡ i → IsFaulty number (get_or draws i draw) error → IsNoWorkOf draws error
refused_at draws i number draw (Refused line kind) less at why = record {
  index = number;
  draw = get_or draws i draw;
  is_drawn = subst (λ (n : ℕ). slice_get draws n ≡ slice_get draws i) (sym at) refl ∙ slice_get-get_or draws i draw less;
  is_refused = why;
}
refused_at draws i number draw NoMemory less at why = tt
