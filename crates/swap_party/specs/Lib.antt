pub mod Said
pub mod Program
