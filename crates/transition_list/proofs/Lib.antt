pub mod LastNamed
