use Rattle.std.proofs.Common.{◌≡◌, ◌∙◌, sym}
use Rattle.std.specs.Prelude.{◌≢◌, false, true, option_copied}
use Rattle.value_types.specs.declared.property.PropertyId.TheVariants.{FontSize}
use Rattle.computed_style.specs.ComputedStyles.{StyleSources, style_sources}
use Rattle.mini_cascade.proofs.CascadeLemmas.{computed_by, computed_value-inherited}
use Rattle.mini_cascade.proofs.values.value_of_property.Goals as goal

pub returns-clause-value : goal.returns-clause-value
returns-clause-value g c =
    let x : StyleSources = style_sources c.args.d.now (g.A.Sampling.animated_value c.args.anims.now) c.args.transitions.now (option_copied c.args.parent) in
    let other : c.args.p ≢ FontSize = λ is. (let h : false ≡ true = rw is at c.if-eq.ensures in cc) in
    computed_by x c.args.p c.args.font_size c.pixels_of_length-own.result c.cascaded_value.result other c.requires.font_size c.pixels_of_length-own.ensures.value c.cascaded_value.ensures.value

pub returns-then-not-declares-clause-value : goal.returns-then-not-declares-clause-value
returns-then-not-declares-clause-value g c =
    let x : StyleSources = style_sources c.args.d.now (g.A.Sampling.animated_value c.args.anims.now) c.args.transitions.now (option_copied c.args.parent) in
    c.inherited_value.ensures.value ∙ sym (computed_value-inherited x c.args.p c.if-has_none.ensures c.if-gives_nothing.ensures c.if-not-declares.ensures.none)
