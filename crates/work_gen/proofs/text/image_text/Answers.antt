use Rattle.std.proofs.Common.{◌∙◌, ap, ◌++◌, List, ℕ}
use Rattle.work_gen.specs.Texts.{front_text, end_text, code_of, back_text, dot_text}
use Rattle.work_gen.proofs.TextLemmas.{four_parts}
use Rattle.work_gen.proofs.text.image_text.Goals as goal

pub returns : goal.returns
returns c =
    four_parts (front_text c.args.draw.kind c.args.index c.args.draw.size) (end_text (code_of c.args.draw.size)) (back_text c.args.draw.kind c.args.index c.args.draw.size) dot_text
    c.push_slice.new.self c.push_slice-2.new.self c.push_slice-3.new.self
    (c.in_ok-push_slice.ensures.ok ∙ (ap (λ (xs : List ℕ). xs ++ c.as_slice.result.now) c.in_ok-text.ensures ∙ ap (λ (xs : List ℕ). front_text c.args.draw.kind c.args.index c.args.draw.size ++ xs) (c.as_slice.ensures ∙ c.in_ok-end.ensures)))
    (c.in_ok-push_slice-2.ensures.ok ∙ ap (λ (xs : List ℕ). c.push_slice.new.self ++ xs) (c.as_slice-2.ensures ∙ c.in_ok-back.ensures))
    c.in_ok-push_slice-3.ensures.ok
