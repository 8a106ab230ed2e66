use Rattle.std.proofs.Common.{◌∙◌, ap}
use Rattle.element_step.specs.Works.{document_event}
use Rattle.restyle.specs.StyleChanges.{root_size_of}
use Rattle.restyle.proofs.Frames.{after_is}
use Rattle.restyle.proofs.restyling.restyle_by.Goals as goal

pub returns-clause-frame : goal.returns-clause-frame
returns-clause-frame g c =
    let r = c.into_content-tree.result in
    c.new-frame.ensures
    ∙ after_is c.args.frame r.tree r.old r.sheets r.entries.items r.time r.generation c.new-work.result _ _ _ c.in_ok-entries.entries.items c.into_content-tree.ensures.value
    (c.new-work.ensures ∙ ap (λ t. document_event r.time r.generation t r.old r.sheets c.root_size_of-root_size.result) c.renumber.ensures
    ∙ ap (λ s. document_event r.time r.generation r.tree r.old r.sheets s) (c.root_size_of-root_size.ensures.value ∙ ap root_size_of c.as_slice.ensures.value))
    c.into_parts-tree.ensures.tree c.into_parts-tree.ensures.sheets c.in_ok-old.ensures c.in_ok-entries.ensures.value
