pub mod ByProperty
pub mod ComputedStyles
pub mod DeclaredItems
pub mod KeptDeclarations
pub mod Styles
pub mod Winners
