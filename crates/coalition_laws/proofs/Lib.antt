pub mod Coalition
